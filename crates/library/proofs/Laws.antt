-- The number and the place of a check's answer, case by case.
use mathlib.Core.Path.{◌≡◌, sym, ap, ◌∙◌}
use mathlib.Core.List.{List}
use Prim.Native.Nat.{ℕ}
use Rattle.layout.specs.Refusals.{number_of, number_in, check_answer}
use Rattle.std.specs.Prelude.{Result, Ok, Err}
use Rattle.layout.specs.declared.Form.{Form}
use Rattle.layout.specs.declared.Refusal.{Refusal}
use Rattle.records.specs.Network.{network_refusal}
use Rattle.library.specs.Place.{place_in}

module _ (b : List ℕ) (c : Result Form Refusal) (h : check_answer c ≡ network_refusal b) where
  module _ (f : Form) (e : c ≡ Ok f) where
    pub sound_number : 0 ≡ number_in (network_refusal b)
    sound_number = ap number_in (ap check_answer (sym e) ∙ h)

    pub sound_place : 0 ≡ place_in (network_refusal b)
    sound_place = ap place_in (ap check_answer (sym e) ∙ h)

  module _ (r : Refusal) (e : c ≡ Err r) where
    pub refused_number : (k : ℕ) → k ≡ number_of r.class → k ≡ number_in (network_refusal b)
    refused_number k q = q ∙ ap number_in (ap check_answer (sym e) ∙ h)

    pub refused_place : r.place ≡ place_in (network_refusal b)
    refused_place = ap place_in (ap check_answer (sym e) ∙ h)

pub ruleset checking = (sound_number, sound_place, refused_number, refused_place)
