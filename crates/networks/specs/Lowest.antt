-- The places of refusals that name a box.
--     lowest, LowestOwn           the lowest own box that meets a test, or of which something holds
--     Entered, unentered          every own box has an entry; the place of refusal 17, which judging and cutting share
use Rattle.std.specs.Prelude.{◌≡◌, Bool, true, cond, not, List, [], ◌∷◌, ℕ, ◌<◌}
use Rattle.std.proofs.Math.Option.{Option, none, some}
use Rattle.lists.specs.All.{All}
use Rattle.networks.specs.Network.{Own, own, Network, own_boxes, box}
use Rattle.lists.specs.Answer.{is_some}

-- Ids rise, so the lowest is the first.
abbrev pub lowest : {R D : Type 0} → (Own R D → Bool) → List (Own R D) → Option ℕ
lowest test [] = none
lowest test (b ∷ bs) = cond (test b) (some b.id) (lowest test bs)

-- Box i is an own box of which Q holds, and Q holds of no own box below it.
abbrev pub LowestOwn : {R P D : Type 0} → Network R P D → (Own R D → Type 0) → ℕ → Type 0
LowestOwn {R} {P} {D} N Q i =
    ((b : Own R D) × (box N i ≡ some (own b)) × Q b)
    × All (λ (d : Own R D). d.id < i → Q d → ⊥) (own_boxes N)

module _ {R P D : Type 0} (N : Network R P D) (entry : ℕ → Option R) where
  -- Every own box has an entry; `entry` is the notes of a sheet, or the routes of a list.
  abbrev pub Entered : Type 0
  Entered = All (λ (b : Own R D). is_some (entry b.id) ≡ true) (own_boxes N)

  -- the place of refusal 17: the lowest own box without an entry
  abbrev pub unentered : Option ℕ
  unentered = lowest (λ (b : Own R D). not (is_some (entry b.id))) (own_boxes N)
