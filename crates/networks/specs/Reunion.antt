-- The fragments of one cut, joined again (document 02, K3).
--     promising                    a network with promises added where cut wires leave: what all fragments join to
--     Plan, numbers, join_parts     fragments that are joined two by two, in any order
--     among                        the set of several numbers
use Rattle.std.specs.Prelude.{Bool, List, [], ◌∷◌, ◌++◌, map, ℕ}
use Rattle.lists.specs.All.{any}
use Rattle.lists.specs.Answer.{Answer, and_then}
use Rattle.networks.specs.Algebra.{Algebra, Telling}
use Rattle.networks.specs.Network.{Box, own, input, Network}
use Rattle.networks.specs.Sound.{Bounds}
use Rattle.networks.specs.Sheets.{Sheet}
use Rattle.networks.specs.Cut.{only, promising_own, cut}
use Rattle.networks.specs.Join.{join}

module _ {R P D : Type 0} (N : Network R P D) (S : Sheet R) where
  abbrev pub promising_box : Box R D → Box R D
  promising_box (own b) = own (promising_own N S b)
  promising_box (input a) = input a

  -- The network with promises added where cut wires leave: every own box as it is in its own fragment.
  unfoldable pub promising : Network R P D
  promising = record { policies = N.policies; boxes = map promising_box N.boxes; wires = N.wires }

-- Fragments by their numbers, joined two by two in any order, each with what its writer is lent.
pub data Plan (X : Type 0) : Type 0 where
  part : (k : ℕ) → X → Plan X
  both : Plan X → Plan X → X → Plan X

-- the numbers of a plan's fragments
abbrev pub numbers : {X : Type 0} → Plan X → List ℕ
numbers (part k x) = k ∷ []
numbers (both l r x) = numbers l ++ numbers r

-- the set of several numbers
abbrev pub among : List ℕ → ℕ → Bool
among ks n = any (λ (k : ℕ). only k n) ks

module _ (𝓐 : Algebra) (telling : Telling 𝓐) (B : Bounds) where
  open 𝓐 use {Route, Policy, Demand}

  -- what a plan gives: each fragment cut out, and each two that are given joined
  abbrev pub join_parts : {X : Type 0} → Network Route Policy Demand → Sheet Route → Plan X → Answer (Network Route Policy Demand)
  join_parts N S (part k x) = cut 𝓐 N S k
  join_parts N S (both l r x) =
      and_then (join_parts N S l) (λ (F : Network Route Policy Demand).
      and_then (join_parts N S r) (λ (G : Network Route Policy Demand).
      join 𝓐 telling B F G))
