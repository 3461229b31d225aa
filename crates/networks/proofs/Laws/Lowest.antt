-- The lowest own box that meets a test, where there is none.
--     lowest_none, none_lowest         no own box meets a test
--     entered_none, none_entered       no own box is without an entry
use mathlib.Core.Path.{◌≡◌, refl, sym, ap}
use mathlib.Core.Bool.{Bool, true, false, cond, not}
use mathlib.Core.Option.{Option, none, some, none-ne-some}
use mathlib.Core.List.{List, [], ◌∷◌}
use Prim.Native.Nat.{ℕ}
use borrow.Author.Tests.{not-false}
use Rattle.lists.specs.All.{All}
use Rattle.lists.proofs.All.{all_map}
use Rattle.networks.specs.Network.{Own, Network, own_boxes}
use Rattle.lists.specs.Answer.{is_some}
use Rattle.networks.specs.Lowest.{lowest, Entered, unentered}

pub lowest_none : {R D : Type 0} (test : Own R D → Bool) (bs : List (Own R D)) → lowest test bs ≡ none → All (λ (b : Own R D). test b ≡ false) bs
lowest_none test [] e = tt
lowest_none {R} {D} test (b ∷ bs) e = go (test b) refl e (lowest_none test bs)
  where
    go : (t : Bool) → test b ≡ t → cond t (some b.id) (lowest test bs) ≡ none → (lowest test bs ≡ none → All (λ (c : Own R D). test c ≡ false) bs)
        → (test b ≡ false) × All (λ (c : Own R D). test c ≡ false) bs
    go true q z r = absurd (none-ne-some _ (sym z))
    go false q z r = (q, r z)

pub none_lowest : {R D : Type 0} (test : Own R D → Bool) (bs : List (Own R D)) → All (λ (b : Own R D). test b ≡ false) bs → lowest test bs ≡ none
none_lowest test [] h = refl
none_lowest test (b ∷ bs) h = rw h.0 (none_lowest test bs h.1)

pub entered_none : {R P D : Type 0} (N : Network R P D) (entry : ℕ → Option R) → Entered N entry → unentered N entry ≡ none
entered_none N entry h = none_lowest _ (own_boxes N) (all_map (own_boxes N) (λ b e. ap not e) h)

pub none_entered : {R P D : Type 0} (N : Network R P D) (entry : ℕ → Option R) → unentered N entry ≡ none → Entered N entry
none_entered N entry e = all_map (own_boxes N) (λ b q. not-false (is_some (entry b.id)) q) (lowest_none _ (own_boxes N) e)
