-- What the contracts of `judge`, `cut` and `join` ask, in the documents' words, and a suite: any judge, any cutter and any joiner that do it.
--     judge_answer                     what the judge answers
--     laying, leaving                 what a call answers that lays a record down, and leaves in the buffer that it is lent
--     cut_answer, cut_leaves            so the cutter
--     join_answer, join_leaves          so the joiner
--     Suite                           functions on bytes that do so; proofs/Contracts.antt shows that the code's contracts ask just this
use Rattle.layout.specs.declared.Refusal.{Refusal}
use Rattle.std.specs.Prelude.{◌≡◌, Bool, List, [], ◌∷◌, ◌++◌, ℕ, ◌<◌, ltb, length, drop, Result}
use Rattle.lists.specs.Answer.{Answer, given, refused}
use Rattle.lists.specs.Bytes.{Bytes}
use Rattle.lists.specs.Test.{first_applying}
use Rattle.routes.specs.declared.Route.{Route}
use Rattle.networks.specs.Judge.{Verdict as Judged, verdict_from}
use Rattle.networks.specs.Network.{own_boxes}
use Rattle.reading.specs.Whole.{network_of, list_of}
use Rattle.judging.specs.Answers as judging
use Rattle.judging.specs.declared.Verdict.{Verdict}
use Rattle.outcomes.specs.Outcomes.{outcome_of}
use Rattle.promises.specs.Calls.{house1}
use Rattle.promises.specs.Demand1.{judging_table, cutting_table, joining_table, fragment_record, joint_record}

-- The first row of the table that applies; otherwise the verdict on all own boxes.
abbrev pub judge_answer : List ℕ → List ℕ → Answer (Judged Route)
judge_answer network list = first_applying (judging_table network list)
    (given (verdict_from house1 (network_of network) (list_of list) 0 (own_boxes (network_of network))))

-- The first row that applies, with 20 as the last; otherwise the length of the record that is laid down.
abbrev pub laying : List (Bool × Answer ℕ) → List ℕ → List ℕ → Answer ℕ
laying rows laid out = first_applying (rows ++ ((ltb (length out) (length laid), refused 20 (length laid)) ∷ [])) (given (length laid))

-- The record over the start of the buffer, with the bytes behind it as they were; on a refusal all of it as it was.
abbrev pub leaving : List ℕ → List ℕ → Answer ℕ → List ℕ
leaving laid out (given n) = laid ++ drop n out
leaving laid out (refused number place) = out

module _ (network sheet : List ℕ) (k : ℕ) (out : List ℕ) where
  -- the record that is laid down
  abbrev laid : List ℕ
  laid = fragment_record network sheet k

  abbrev pub cut_answer : Answer ℕ
  cut_answer = laying (cutting_table network sheet k) laid out

  abbrev pub cut_leaves : List ℕ
  cut_leaves = leaving laid out cut_answer

module _ (first second out : List ℕ) where
  -- the same, and the refusals before 20
  abbrev joint : List ℕ
  joint = joint_record first second

  abbrev unfit : List (Bool × Answer ℕ)
  unfit = joining_table first second

  abbrev pub join_answer : Answer ℕ
  join_answer = laying unfit joint out

  abbrev pub join_leaves : List ℕ
  join_leaves = leaving joint out join_answer

-- A slice is bytes, and a fragment is asked by a byte. An enum's case is read by the definition that gives its number and values.
pub record Suite : Type 0 where
  pub judge : List ℕ → List ℕ → Verdict
  pub cut : List ℕ → List ℕ → ℕ → List ℕ → Result ℕ Refusal
  pub join : List ℕ → List ℕ → List ℕ → Result ℕ Refusal
  -- what the lent buffer holds at exit
  pub after : List ℕ → List ℕ → ℕ → List ℕ → List ℕ
  pub after_join : List ℕ → List ℕ → List ℕ → List ℕ
  pub judges : (network list : List ℕ) → Bytes network → Bytes list → judging.answer_of (judge network list) ≡ judge_answer network list
  pub cuts : (network sheet : List ℕ) (k : ℕ) (out : List ℕ) → Bytes network → Bytes sheet → k < 256 → Bytes out
      → (outcome_of (cut network sheet k out) ≡ cut_answer network sheet k out) × (after network sheet k out ≡ cut_leaves network sheet k out)
  pub joins : (first second out : List ℕ) → Bytes first → Bytes second → Bytes out
      → (outcome_of (join first second out) ≡ join_answer first second out) × (after_join first second out ≡ join_leaves first second out)
