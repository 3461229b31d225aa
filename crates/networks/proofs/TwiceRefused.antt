-- Two fragments with no own box in common, cut one out of the other: refused with 18, and the place is the number of the first cut where no
-- own box has that, since the first cut is refused, and the number of the second where one has. By `swapped` the same holds of the other
-- order.
use mathlib.Core.Path.{◌≡◌, refl, sym, ap, ◌∙◌}
use mathlib.Core.Bool.{Bool, true, false, cond}
use mathlib.Core.Option.{none, some}
use mathlib.Core.List.{[], ◌∷◌}
use Prim.Native.Nat.{ℕ}
use Rattle.lists.specs.All.{any}
use Rattle.lists.specs.Answer.{Answer, given, refused, and_then, row}
use Rattle.lists.specs.Test.{first_applying}
use Rattle.lists.proofs.Answer.{refused_given, refused_place}
use Rattle.networks.specs.Algebra.{Algebra}
use Rattle.networks.specs.Network.{NetworkOver, own_boxes, owns}
use Rattle.networks.specs.Sound.{Bounds, Sound}
use Rattle.networks.specs.Sheets.{Sheet, number}
use Rattle.networks.specs.Cut.{fragment, numbered, cut, cut_twice, Cuts, Third}
use Rattle.networks.proofs.Laws.Formed.{sound_formed}
use Rattle.networks.proofs.Laws.Cutting.{Fits, cut_answer_lem, cuts_fits}
use Rattle.networks.proofs.Laws.Recut.{first_fits, second_fits}
use Rattle.networks.proofs.Recutting.{apart_refused}

-- a refusal of a sheet that fits has the number asked
asked_place : {A : Type 0} (t : Bool) (y place : ℕ) (F : A) → first_applying (row 18 (cond t none (some y)) ∷ []) (given F) ≡ refused 18 place → place ≡ y
asked_place true y place F e = absurd (refused_given (sym e))
asked_place false y place F e = sym (refused_place e)

pub apart_place_lem : (𝓐 : Algebra) (B : Bounds) (N : NetworkOver 𝓐) (X Y Z : Sheet 𝓐.Route) → Sound B N → Third X Y Z → Cuts 𝓐 N Z
    → (x y : ℕ) → ((w : ℕ) → owns N w ≡ true → number X w ≡ x → number Y w ≡ y → ⊥)
    → cut_twice 𝓐 N X x Y y ≡ refused 18 (cond (any (numbered N X x) (own_boxes N)) y x)
apart_place_lem 𝓐 B N X Y Z sound third cuts x y apart = a.1 ∙ ap (refused 18) (go (any (numbered N X x) (own_boxes N)) refl)
  where
    fits : Fits N Z
    fits = (cuts_fits 𝓐 N Z B sound).0 cuts

    a : (place : ℕ) × (cut_twice 𝓐 N X x Y y ≡ refused 18 place)
    a = apart_refused 𝓐 B N X Y Z sound third cuts x y apart

    first : (t : Bool) → any (numbered N X x) (own_boxes N) ≡ t
        → first_applying (row 18 (cond t none (some x)) ∷ []) (given (fragment N X x)) ≡ cut 𝓐 N X x
    first t q = rw (← q) (sym (cut_answer_lem 𝓐 N X (first_fits N X Y Z (sound_formed B N sound) fits third) x))

    go : (t : Bool) → any (numbered N X x) (own_boxes N) ≡ t → a.0 ≡ cond t y x
    go false q = sym (refused_place (ap (λ (c : Answer (NetworkOver 𝓐)). and_then c (λ (F : NetworkOver 𝓐). cut 𝓐 F Y y)) (first false q) ∙ a.1))
    go true q = asked_place (any (numbered (fragment N X x) Y y) (own_boxes (fragment N X x))) y a.0 (fragment (fragment N X x) Y y)
        (sym (cut_answer_lem 𝓐 (fragment N X x) Y (second_fits N X Y Z (sound_formed B N sound) fits third x) y)
        ∙ ap (λ (c : Answer (NetworkOver 𝓐)). and_then c (λ (F : NetworkOver 𝓐). cut 𝓐 F Y y)) (first true q) ∙ a.1)
