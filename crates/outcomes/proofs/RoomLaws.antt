-- A record against the room for it: the length decides between the record and 20, and a refusal leaves the buffer as it was.
--     rooms                          one law for each side of the code's test
--     record_laid, record_unlaid     a network that is given, with room for its record and without
--     room_refuses, refusal_keeps    a refusal: one of the network's own, or 20 with the record's length; the buffer on each
use Prim.Native.Nat.{ℕ, ◌≤◌, ◌<◌}
use mathlib.Core.Bool.{Bool, true, false, cond}
use mathlib.Core.List.{List, ◌++◌}
use mathlib.Core.Logic.{◌⊎◌, inl, inr, ⊎_elim}
use mathlib.Core.Path.{◌≡◌, refl, sym, ap, ◌∙◌}
use lib.Dec.{leb}
use lib.ListN.{length, drop}
use borrow.Author.Tests.{le-leb, lt-leb, leb-false}
use Rattle.lists.specs.Laid.{over}
use Rattle.lists.specs.Answer.{Answer, given, refused}
use Rattle.lists.proofs.Answer.{refused_given, then_refused}
use Rattle.lists.proofs.Laid.{placed_fits, placed_short}
use Rattle.layout.specs.declared.Form.{Form}
use Rattle.reading.specs.Whole.{HouseNetwork, write_network}
use Rattle.outcomes.specs.Room.{in_room, record_answer, laid_answer}

module _ (room size : ℕ) where
  pub room_short : room < size → refused 20 size ≡ in_room room size
  room_short h = rw (lt-leb size room h)

  pub room_enough : size ≤ room → given size ≡ in_room room size
  room_enough h = rw (le-leb size room h)

  -- 20 is all that the room refuses
  no_room : (at place : ℕ) → in_room room size ≡ refused at place → (at ≡ 20) × (place ≡ size) × (room < size)
  no_room at place = go (leb size room) refl
    where
      go : (t : Bool) → leb size room ≡ t → cond t (given size) (refused 20 size) ≡ refused at place → (at ≡ 20) × (place ≡ size) × (room < size)
      go true q e = absurd (refused_given (sym e))
      go false q e = (cc, cc, leb-false size room q)

pub ruleset rooms = (room_short, room_enough)

module _ (f : Form) (A : Answer HouseNetwork) where
  module _ (out : List ℕ) (F : HouseNetwork) (e : A ≡ given F) where
    abbrev W : List ℕ
    W = write_network f F

    pub record_laid : length W ≤ length out → (record_answer f (length out) A ≡ given (length W)) × (laid_answer f A out ≡ W ++ drop (length W) out)
    unfolding over
    record_laid room = (
      rw e (sym (room_enough (length out) (length W) room)),
      ap (λ (a : Answer HouseNetwork). laid_answer f a out) e ∙ sym (placed_fits W out (over W out) room refl),
    )

    pub record_unlaid : length out < length W → (record_answer f (length out) A ≡ refused 20 (length W)) × (laid_answer f A out ≡ out)
    record_unlaid room = (
      rw e (sym (room_short (length out) (length W) room)),
      ap (λ (a : Answer HouseNetwork). laid_answer f a out) e ∙ sym (placed_short W out out room refl),
    )

  -- what is refused of the network is refused whatever the room; what is given is refused where there is no room for it
  pub room_refuses : (room at place : ℕ) → record_answer f room A ≡ refused at place
      → (A ≡ refused at place)
      ⊎ ((F : HouseNetwork) × (A ≡ given F) × (at ≡ 20) × (place ≡ length (write_network f F)) × (room < length (write_network f F)))
  room_refuses room at place e = ⊎_elim inl
      (λ s. let w = no_room room (length (write_network f s.0)) at place s.2 in inr (s.0, s.1, w.0, w.1, w.2))
      (then_refused A (λ (F : HouseNetwork). in_room room (length (write_network f F))) at place e)

  pub refusal_keeps : (out : List ℕ) (at place : ℕ) → record_answer f (length out) A ≡ refused at place → laid_answer f A out ≡ out
  refusal_keeps out at place e = ⊎_elim (λ r. ap (λ (a : Answer HouseNetwork). laid_answer f a out) r) (λ s. (record_unlaid out s.0 s.1 s.4).1)
      (room_refuses (length out) at place e)
