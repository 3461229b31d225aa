-- What document 02's K3 adds to demand 3. For a sound network and a sheet that cuts it, the fragments of different numbers are joined two by two
-- in any order (a plan): what that gives is at every step the fragment of all the numbers joined so far, and with the numbers of every own box
-- it is the network, with the note promised wherever a cut wire leaves a box that promised nothing. By the same sheet that is cut into the same
-- fragments, or refused alike. Buffers do not come into it here.
use mathlib.Core.Path.{◌≡◌, sym, ap, ◌∙◌}
use mathlib.Core.Bool.{Bool, true, false, ◌||◌}
use Prim.Native.Nat.{ℕ}
use Rattle.lists.specs.All.{All, any, Distinct}
use Rattle.lists.specs.Answer.{given}
use Rattle.networks.specs.Algebra.{Algebra, Telling}
use Rattle.networks.specs.Network.{Own, NetworkOver, own_boxes}
use Rattle.networks.specs.Sound.{Bounds, Sound}
use Rattle.networks.specs.Sheets.{Sheet, number}
use Rattle.networks.specs.Cut.{fragment_of, numbered, cut, Cuts}
use Rattle.networks.specs.Join.{join}
use Rattle.networks.specs.Reunion.{promising, Plan, numbers, among, join_parts}
use Rattle.networks.proofs.Laws.Cutting.{Fits, cuts_fits}
use Rattle.networks.proofs.Laws.Soundness.{fragment_sound}
use Rattle.networks.proofs.Laws.Promising.{covered, promising_sound, cut_promising}
use Rattle.networks.proofs.Laws.Reunion.{join_fragments, parts_joined, some_among}

module _ (𝓐 : Algebra) (telling : Telling 𝓐) (B : Bounds) (N : NetworkOver 𝓐) (S : Sheet 𝓐.Route) (sound : Sound B N) (cuts : Cuts 𝓐 N S) where
  open 𝓐 use {Route, Demand}

  fits : Fits N S
  fits = (cuts_fits 𝓐 N S B sound).0 cuts

  -- two fragments with no number in common
  pub two_joined : (κ μ : ℕ → Bool) → ((n : ℕ) → κ n ≡ true → μ n ≡ false)
      → join 𝓐 telling B (fragment_of N S κ) (fragment_of N S μ) ≡ given (fragment_of N S (λ (n : ℕ). κ n || μ n))
  two_joined = join_fragments 𝓐 B N S sound fits telling

  module _ {X : Type 0} (plan : Plan X) (once : Distinct (numbers plan)) (there : All (λ (k : ℕ). any (numbered N S k) (own_boxes N) ≡ true) (numbers plan)) where
    -- the fragments of some numbers
    pub some_joined : join_parts 𝓐 telling B N S plan ≡ given (fragment_of N S (among (numbers plan)))
    some_joined = parts_joined 𝓐 B N S sound fits telling plan once there

    pub some_sound : Sound B (fragment_of N S (among (numbers plan)))
    some_sound = fragment_sound N S B (among (numbers plan)) sound fits.entered (some_among N S plan there)

    -- the fragments of every own box's number
    pub all_joined : All (λ (b : Own Route Demand). among (numbers plan) (number S b.id) ≡ true) (own_boxes N)
        → join_parts 𝓐 telling B N S plan ≡ given (promising N S)
    all_joined every = some_joined ∙ ap given (covered N S (among (numbers plan)) sound.wires_joined sound.inputs_used every)

-- cutting what is joined
pub cut_back : (𝓐 : Algebra) (N : NetworkOver 𝓐) (S : Sheet 𝓐.Route) (k : ℕ) → cut 𝓐 (promising N S) S k ≡ cut 𝓐 N S k
cut_back = cut_promising

pub joined_cuts : (𝓐 : Algebra) (N : NetworkOver 𝓐) (S : Sheet 𝓐.Route) → Cuts 𝓐 N S → Cuts 𝓐 (promising N S) S
joined_cuts 𝓐 N S cuts k n place e = cuts k n place (sym (cut_back 𝓐 N S k) ∙ e)

pub joined_sound : (𝓐 : Algebra) (B : Bounds) (N : NetworkOver 𝓐) (S : Sheet 𝓐.Route) → Sound B N → Sound B (promising N S)
joined_sound 𝓐 B N S = promising_sound N S B
