-- The demands about what the functions return, proved: a suite's verdict and its cutter's answer have the numbers and values of the
-- definitions' answers, two cases with the same are one, and so each statement follows from the one about the definitions.
--     passed_said, said, verdict_is     the judge, from its verdict to the definitions' answer and back
--     cut_said_lem, leaves_buffer, kept_said     the cutter, likewise, and its buffer
--     out_said, out_bytes, twice_said   the record that a cut leaves, and one cut upon another's
use Rattle.std.proofs.Common.{Err, Ok, Result}
use mathlib.Core.Path.{◌≡◌, refl, sym, ap, ap₂, ◌∙◌}
use mathlib.Core.List.{List}
use mathlib.Core.Logic.{◌↔◌, ◌⊎◌, inl, inr, ⊎_elim}
use Prim.Native.Nat.{ℕ, zero, suc, ◌<◌}
use native.Mathlib.Omega.{arith}
use lib.ListN.{length, take, replicate, length-replicate}
use Rattle.lists.specs.Answer.{Answer, given, refused, and_then}
use Rattle.lists.specs.Bytes.{Bytes}
use Rattle.lists.proofs.Answer.{refused_given, refused_number, then_given}
use Rattle.networks.specs.Sheets.{number}
use Rattle.layout.specs.Form.{form_of, sheet_lead}
use Rattle.layout.specs.Refusals.{number_of}
use Rattle.layout.specs.declared.Class.{Class}
use Rattle.layout.specs.declared.Class.TheVariants.{NoEntry, NoSuchOwn, NoRoom}
use Rattle.layout.specs.declared.Refusal.{Refusal}
use Rattle.layout.proofs.Cases.{class_of, number_class}
use Rattle.entries.specs.Entries.{WellFormed}
use Rattle.reading.specs.Largest.{largest_network}
use Rattle.reading.specs.Whole.{sheet_of}
use Rattle.reading.proofs.Bridges.{read_sheet_lem}
use Rattle.judging.specs.Answers as judging
use Rattle.judging.specs.Judging.{judge_records}
use Rattle.judging.specs.declared.Verdict.{Verdict}
use Rattle.judging.specs.declared.Verdict.TheVariants as verdict
use Rattle.judging.proofs.Answers.{one_verdict}
use Rattle.outcomes.specs.Outcomes.{outcome_of}
use Rattle.cutting.specs.Cutting.{cut_records, cut_buffer}
use Rattle.outcomes.proofs.Outcomes.{one_outcome}
use Rattle.cutting.proofs.OnBytes.{record_small}
use Rattle.promises.specs.Answers.{Passed, cut_out, cut_out_twice}
use Rattle.promises.specs.Answers.{ReturnsPass, ReturnsFirst, ReturnsCount, AsksEntry, KeepsBuffer, LaysFragment}
use Rattle.promises.specs.Answers.{CutsAlike, PartsAndWhole, TwiceIsOnce, ApartReturns, SameVerdict, SameRecord}
use Rattle.promises.specs.Calls.{Passes, cut_into, Roomy, SheetCuts}
use Rattle.promises.specs.Demand1.{cutting_table, fragment_record}
use Rattle.promises.specs.Demand3.{cut_twice}
use Rattle.promises.specs.Suite.{Suite, cut_leaves}
use Rattle.promises.proofs.Cuts.{into_fragment, into_given, number_small, cuts_sheet}
use Rattle.promises.proofs.Demand1.{judge_refuses, cut_refuses, refusal_keeps}
use Rattle.promises.proofs.Demand2.{passes_exactly, finds_first, entry_asked, cuts_fragment}
use Rattle.promises.proofs.Demand3.{blank, blank_roomy, fragments_whole, common_refinement, apart_refuses}
use Rattle.promises.proofs.JudgedCount.{judged_count}
use Rattle.promises.proofs.Laying.{leaves_laid, lays, keeps}
use Rattle.promises.proofs.SameAnswer.{same_answer, same_cut}

-- a verdict that has the definitions' answer is a pass where that is one
passed_said : (network list : List ℕ) (v : Verdict) → judging.answer_of v ≡ judge_records network list → Passed v ↔ Passes network list
passed_said network list v e = (λ p. (p.0, sym e ∙ ap judging.answer_of p.1), λ p. (p.0, one_verdict _ v (verdict.Pass p.0) e (sym p.1)))

module _ (s : Suite) where
  module _ (network list : List ℕ) where
    pub returns_pass : ReturnsPass s network list
    returns_pass small list_small =
        let e = passed_said network list (s.judge network list) (s.judges network list small list_small ∙ sym (judge_refuses network list)) in
        let x = passes_exactly network list small in
        (λ p. x.0 (e.0 p), λ h. e.1 (x.1 h))

    module _ (small : Bytes network) (list_small : Bytes list) where
      said : judging.answer_of (s.judge network list) ≡ judge_records network list
      said = s.judges network list small list_small ∙ sym (judge_refuses network list)

      pub verdict_is : (w : Verdict) → judge_records network list ≡ judging.answer_of w → s.judge network list ≡ w
      verdict_is w e = one_verdict _ (s.judge network list) w said (sym e)

    pub returns_first : ReturnsFirst s network list
    returns_first small list_small number node count route e =
        let f = finds_first network list small number node count route (sym (said small list_small) ∙ e) in
        (f.0, f.1)

    pub returns_count : ReturnsCount s network list
    returns_count small list_small = rw (said small list_small) (judged_count network list small)

    pub asks_entry : AsksEntry s network list
    asks_entry small list_small n l w own none_listed =
        let a = entry_asked network list small n l w own none_listed in
        (a.0, verdict_is small list_small (verdict.Refused (record { class = NoEntry; place = a.0 })) a.1, a.2)

  pub same_verdict : (network list other : List ℕ) → SameVerdict s network list other
  same_verdict network list other small list_small other_small l m agree =
      verdict_is network list small list_small (s.judge network other)
      (same_answer network list other l m agree ∙ sym (said network other small other_small))

  module _ (network sheet : List ℕ) (k : ℕ) (out : List ℕ) where
    abbrev F : List ℕ
    F = fragment_record network sheet k

    pub lays_fragment : LaysFragment s network sheet k out
    lays_fragment small sheet_small asked out_small =
        let c = s.cuts network sheet k out small sheet_small asked out_small in
        lays (cutting_table network sheet k) F out (s.cut network sheet k out) (s.after network sheet k out) c.0 c.1

    pub keeps_buffer : KeepsBuffer s network sheet k out
    keeps_buffer small sheet_small asked out_small =
        let c = s.cuts network sheet k out small sheet_small asked out_small in
        keeps (cutting_table network sheet k) F out (s.cut network sheet k out) (s.after network sheet k out) c.0 c.1

-- what is left in the buffer is what the definition of the cutter leaves there
pub leaves_buffer : (network sheet : List ℕ) (k : ℕ) (out : List ℕ) → cut_leaves network sheet k out ≡ cut_buffer network sheet k out
leaves_buffer network sheet k out = leaves_laid (cutting_table network sheet k) (fragment_record network sheet k) out (cut_buffer network sheet k out) refl
    (λ number place e. refusal_keeps network sheet k out number place (cut_refuses network sheet k (length out) ∙ e))
    (λ h room. ((cuts_fragment network sheet k out h).0 room).1)

module _ (s : Suite) where
  module _ (network sheet : List ℕ) (k : ℕ) (out : List ℕ) where
    module _ (small : Bytes network) (sheet_small : Bytes sheet) (asked : k < 256) (out_small : Bytes out) where
      pub cut_said_lem : outcome_of (s.cut network sheet k out) ≡ cut_records network sheet k (length out)
      cut_said_lem = (s.cuts network sheet k out small sheet_small asked out_small).0 ∙ sym (cut_refuses network sheet k (length out))

      kept_said : s.after network sheet k out ≡ cut_buffer network sheet k out
      kept_said = (s.cuts network sheet k out small sheet_small asked out_small).1 ∙ leaves_buffer network sheet k out

      pub out_said : cut_out s network sheet k out ≡ cut_into network sheet k out
      unfolding cut_into
      out_said = ap₂ (λ (a : Answer ℕ) (b : List ℕ). and_then a (λ (n : ℕ). given (take n b))) cut_said_lem kept_said

  pub same_record : (network sheet other : List ℕ) → SameRecord s network sheet other
  same_record network sheet other small sheet_small other_small f g agree k out asked out_small =
      let e = same_cut network sheet other small f g agree k out in (
        one_outcome _ (s.cut network sheet k out) (s.cut network other k out) (cut_said_lem network sheet k out small sheet_small asked out_small)
            (cut_said_lem network other k out small other_small asked out_small ∙ sym e.0),
        kept_said network sheet k out small sheet_small asked out_small
            ∙ e.1
            ∙ sym (kept_said network other k out small other_small asked out_small),
      )

-- buffers of zeros are bytes
pub zero_bytes : (n : ℕ) → Bytes (replicate n 0)
zero_bytes zero i = omega arith
zero_bytes (suc n) zero = omega arith
zero_bytes (suc n) (suc i) = zero_bytes n i

-- a number of a class is the class
class_is : (c d : Class) → number_of c ≡ number_of d → c ≡ d
class_is c d e = sym (number_class c) ∙ ap class_of e ∙ number_class d

-- the record that a cut leaves is bytes
pub out_bytes : (network sheet : List ℕ) (k : ℕ) (out : List ℕ) → Bytes network → Bytes sheet
    → (F : List ℕ) → cut_into network sheet k out ≡ given F → Bytes F
out_bytes network sheet k out small sheet_small F e =
    let g = into_given network sheet k out F e in
    rw g.2 (record_small network sheet k small g.0 g.1 sheet_small)

module _ (s : Suite) where
  pub cuts_alike : (network sheet : List ℕ) → CutsAlike s network sheet
  cuts_alike network sheet small sheet_small = (to, from)
    where
      to : ((k : ℕ) (out : List ℕ) (r : Refusal) → k < 256 → Bytes out → s.cut network sheet k out ≡ Err r
          → (r.class ≡ NoSuchOwn) ⊎ (r.class ≡ NoRoom)) → SheetCuts network sheet
      to h k room n place asked e = go (s.cut network sheet k (replicate room 0)) refl
        where
          same : outcome_of (s.cut network sheet k (replicate room 0)) ≡ refused n place
          same = cut_said_lem s network sheet k (replicate room 0) small sheet_small asked (zero_bytes room)
              ∙ ap (cut_records network sheet k) (length-replicate room 0) ∙ e

          go : (c : Result ℕ Refusal) → s.cut network sheet k (replicate room 0) ≡ c → (n ≡ 18) ⊎ (n ≡ 20)
          go (Ok m) q = absurd (refused_given (sym same ∙ ap outcome_of q))
          go (Err r) q =
              let z : n ≡ number_of r.class = refused_number (sym same ∙ ap outcome_of q) in
              ⊎_elim (λ c. inl (z ∙ ap number_of c)) (λ c. inr (z ∙ ap number_of c)) (h k (replicate room 0) r asked (zero_bytes room) q)

      from : SheetCuts network sheet → (k : ℕ) (out : List ℕ) (r : Refusal) → k < 256 → Bytes out → s.cut network sheet k out ≡ Err r
          → (r.class ≡ NoSuchOwn) ⊎ (r.class ≡ NoRoom)
      from h k out r asked out_small e =
          ⊎_elim (λ q. inl (class_is r.class NoSuchOwn q)) (λ q. inr (class_is r.class NoRoom q))
          (h k (length out) (number_of r.class) r.place asked
          (sym (cut_said_lem s network sheet k out small sheet_small asked out_small) ∙ ap outcome_of e))

  pub passed : (network list : List ℕ) → Bytes network → Bytes list → Passed (s.judge network list) ↔ Passes network list
  passed network list small list_small = passed_said network list (s.judge network list) (said s network list small list_small)

  pub parts_and_whole : (network sheet list : List ℕ) → PartsAndWhole s network sheet list
  parts_and_whole network sheet list small sheet_small list_small cuts l entered =
      let theorem = fragments_whole network sheet list small sheet_small cuts l entered in (
        λ h. let w = theorem.0 (part h) in ((passed network list small list_small).1 w.0, w.1),
        λ h k out F asked out_small roomy e.
            let q = sym (out_said s network sheet k out small sheet_small asked out_small) ∙ e in
            (passed F list (out_bytes network sheet k out small sheet_small F q) list_small).1
            (theorem.1 ((passed network list small list_small).0 h.0, h.1) k out F asked roomy q),
      )
    where
      -- what a cut leaves does not depend on what the buffer held
      part : ((k : ℕ) (out F : List ℕ) → k < 256 → Bytes out → Roomy (form_of network) out → cut_out s network sheet k out ≡ given F → Passed (s.judge F list))
          → (k : ℕ) (out F : List ℕ) → k < 256 → Roomy (form_of network) out → cut_into network sheet k out ≡ given F → Passes F list
      part h k out F asked roomy e =
          let empty = blank (form_of network) in
          let q = into_fragment network sheet k empty small (blank_roomy (form_of network)) ∙ sym (into_fragment network sheet k out small roomy) ∙ e in
          (passed F list (out_bytes network sheet k out small sheet_small F e) list_small).0
          (h k empty F asked (zero_bytes (largest_network (form_of network))) (blank_roomy (form_of network))
          (out_said s network sheet k empty small sheet_small asked (zero_bytes (largest_network (form_of network))) ∙ q))

  twice_said : (network X Y : List ℕ) (x y : ℕ) (o₁ o₂ : List ℕ) → Bytes network → Bytes X → Bytes Y → x < 256 → y < 256 → Bytes o₁ → Bytes o₂
      → cut_out_twice s network X x o₁ Y y o₂ ≡ cut_twice network X x o₁ Y y o₂
  twice_said network X Y x y o₁ o₂ small first_small second_small x_asked y_asked small₁ small₂ =
      ap (λ (a : Answer (List ℕ)). and_then a (λ (F : List ℕ). cut_out s F Y y o₂)) (out_said s network X x o₁ small first_small x_asked small₁)
      ∙ go (cut_into network X x o₁) refl
    where
      go : (a : Answer (List ℕ)) → cut_into network X x o₁ ≡ a
          → and_then a (λ (F : List ℕ). cut_out s F Y y o₂) ≡ and_then a (λ (F : List ℕ). cut_into F Y y o₂)
      go (given F) q = out_said s F Y y o₂ (out_bytes network X x o₁ small first_small F q) second_small y_asked small₂
      go (refused m p) q = refl

  -- fragment numbers are bytes
  number_byte : (sheet : List ℕ) → Bytes sheet → WellFormed sheet_lead sheet → (w : ℕ) → number (sheet_of sheet) w < 256
  number_byte sheet small f w = let m = number_small (sheet_of sheet) (read_sheet_lem sheet small f).0.fragments w in omega arith

  pub twice_is_once : (network X Y Z : List ℕ) → TwiceIsOnce s network X Y Z
  twice_is_once network X Y Z r w own o₁ o₂ o₃ small₁ small₂ small₃ roomy₁ roomy₂ roomy₃ =
      let x = number_byte X r.bytes.1 r.first_formed w in
      let y = number_byte Y r.bytes.2 r.second_formed w in
      let z = number_byte Z r.bytes.3 (cuts_sheet network Z r.cuts) w in
      let once = out_said s network Z (number (sheet_of Z) w) o₃ r.bytes.0 r.bytes.3 z small₃ in
      let e = common_refinement network X Y Z r w own o₁ o₂ o₃ roomy₁ roomy₂ roomy₃ in
      let n = then_given (outcome_of (s.cut network Z (number (sheet_of Z) w) o₃)) _ e.2.0 (once ∙ e.2.1) in (
        twice_said network X Y (number (sheet_of X) w) (number (sheet_of Y) w) o₁ o₂ r.bytes.0 r.bytes.1 r.bytes.2 x y small₁ small₂
            ∙ e.0 ∙ sym once,
        twice_said network Y X (number (sheet_of Y) w) (number (sheet_of X) w) o₁ o₂ r.bytes.0 r.bytes.2 r.bytes.1 y x small₁ small₂
            ∙ e.1 ∙ sym once,
        (n.0, one_outcome (given n.0) (s.cut network Z (number (sheet_of Z) w) o₃) (Ok n.0) n.1 refl),
      )

  pub apart_returns : (network X Y Z : List ℕ) → ApartReturns s network X Y Z
  apart_returns network X Y Z r x y x_asked y_asked apart o₁ o₂ small₁ small₂ roomy₁ roomy₂ =
      let e = apart_refuses network X Y Z r x y apart o₁ o₂ roomy₁ roomy₂ in (
        twice_said network X Y x y o₁ o₂ r.bytes.0 r.bytes.1 r.bytes.2 x_asked y_asked small₁ small₂ ∙ e.0,
        twice_said network Y X y x o₁ o₂ r.bytes.0 r.bytes.2 r.bytes.1 y_asked x_asked small₁ small₂ ∙ e.1,
      )
