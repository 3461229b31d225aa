-- The edges of a network, as the code reads them.
--     boxed_is, owned_ids     whether a node has an id, by the table from ids to rows, and whether it is an own one
--     ends_..                 when the ends of an edge are well formed
--     edge_forms              when an edge is
use Prim.Native.Nat.{ℕ, ◌+◌}
use native.Mathlib.Omega.{arith}
use mathlib.Core.Path.{◌≡◌, refl, sym, ◌∙◌}
use mathlib.Core.Bool.{Bool, true, false, not, false≢true}
use mathlib.Core.List.{List}
use lib.Dec.{eqb, ltb}
use lib.ListN.{get_or}
use mir.Syntax.{w16}
use mir.Val.{Fits}
use borrow.Author.Tests.{eqb-true, eqb-false}
use Rattle.numbers.specs.BigEndian.{u16_at}
use Rattle.nodes.specs.Node.{is_own, row_of}
use Rattle.records.specs.Edge.{boxed, owned, ends_formed, edge_formed}
use Rattle.records.specs.Rows.{Filled}
use Rattle.records.proofs.RowLaws.{mark_none, mark_boxed}
use Rattle.layout.specs.declared.Form.{Form}

module _ (f : Form) (b rows : List ℕ) (filled : Filled f b rows) (id : ℕ) (m : Fits w16 id) where
  pub boxed_is : (wide : ℕ) → wide ≡ id → not (eqb (get_or rows wide 0) 0) ≡ boxed f b id
  boxed_is wide w = rw w (go (eqb (get_or rows id 0) 0) refl)
    where
      go : (t : Bool) → eqb (get_or rows id 0) 0 ≡ t → not t ≡ boxed f b id
      go true e = let h : boxed f b id ≡ false = mark_none f b id rows (get_or rows id 0) filled (omega arith) refl (eqb-true _ _ e) in rw h
      go false e = let h : boxed f b id ≡ true = mark_boxed f b id rows (get_or rows id 0) filled (omega arith) refl (eqb-false _ _ e) in rw h

module _ (f : Form) (b : List ℕ) (id : ℕ) (t : Bool) (q : t ≡ boxed f b id) where
  pub owned_none : t ≡ false → t ≡ owned f b id
  unfolding owned
  owned_none y = let h : boxed f b id ≡ false = cc in rw (y, h)

  module _ (y : t ≡ true) where
    pub owned_there : boxed f b id ≡ true
    owned_there = cc

    pub owned_own : (row : ℕ) (s : Bool) → row ≡ row_of f b id → s ≡ is_own f b row → s ≡ owned f b id
    unfolding owned
    owned_own row s e h = rw (owned_there, ← e) h

-- v is the answer of the first test, or of the second where the first is met
module _ (f : Form) (b : List ℕ) (to from : ℕ) (t v : Bool) (q : t ≡ owned f b to) where
  pub ends_to : t ≡ false → v ≡ t → v ≡ ends_formed f b to from
  unfolding ends_formed
  ends_to y e = let h : owned f b to ≡ false = cc in rw (h, e) y

  pub ends_never : t ≡ false → v ≡ t → v ≡ true → not (eqb to from) ≡ ends_formed f b to from
  ends_never y e z = absurd (false≢true (sym y ∙ sym e ∙ z))

  module _ (s : Bool) (k : s ≡ boxed f b from) (y : t ≡ true) (e : v ≡ s) where
    pub ends_from : v ≡ false → v ≡ ends_formed f b to from
    unfolding ends_formed
    ends_from z = let h : owned f b to ≡ true = cc in let g : boxed f b from ≡ false = cc in rw (h, g) z

    pub ends_differ : v ≡ true → not (eqb to from) ≡ ends_formed f b to from
    unfolding ends_formed
    ends_differ z = let h : owned f b to ≡ true = cc in let g : boxed f b from ≡ true = cc in rw (h, g)

module _ (f : Form) (b : List ℕ) (o to from : ℕ) (p : to ≡ u16_at b o) (r : from ≡ u16_at b (o + 2)) (t : Bool) (q : t ≡ ends_formed f b to from) where
  pub edge_ends : t ≡ false → t ≡ edge_formed f b o
  unfolding edge_formed
  edge_ends y = let h : ends_formed f b to from ≡ false = cc in rw (← p, ← r, h) y

  pub edge_policy_lem : t ≡ true → ltb (get_or b (o + 4) 0) (get_or b 9 0) ≡ edge_formed f b o
  unfolding edge_formed
  edge_policy_lem y = let h : ends_formed f b to from ≡ true = cc in rw (← p, ← r, h)

pub ruleset owned_ids = (owned_none, owned_there, owned_own)

pub ruleset ends = (ends_to, ends_never, ends_from, ends_differ)

pub ruleset edge_forms = (edge_ends, edge_policy_lem)
