-- Joining once more, about what the functions return: the statements hold of every suite, so of the code.
--     join_out, join_out_all              the record that a join leaves, and that a plan of cuts and joins leaves
--     KeepsJoin, LaysJoint             demand 1, and the record in the buffer
--     RejoinsParts, GivesBack          demand 3, the fragments of one cut
--     JoinsEitherWay, JoinedVerdict    either order; a list passes exactly where it passes in both
use Rattle.std.specs.Prelude.{◌≡◌, List, ◌++◌, ◌↔◌, ℕ, ◌≤◌, ◌<◌, length, take, drop, Err, Ok, Result}
use Rattle.lists.specs.Answer.{Answer, given, and_then, NoneApplies}
use Rattle.lists.specs.Bytes.{Bytes}
use Rattle.networks.specs.Reunion.{Plan, part, both}
use Rattle.layout.specs.Form.{form_of}
use Rattle.layout.specs.declared.Class.TheVariants.{NoRoom}
use Rattle.layout.specs.declared.Refusal.{Refusal}
use Rattle.records.specs.Network.{SoundRecord}
use Rattle.outcomes.specs.Outcomes.{outcome_of}
use Rattle.promises.specs.Answers.{Passed, cut_out}
use Rattle.promises.specs.Calls.{Roomy, SheetCuts}
use Rattle.promises.specs.Demand1.{joining_table, joint_record}
use Rattle.promises.specs.Reunion.{Whole, promising_record}
use Rattle.promises.specs.Suite.{Suite}

-- every buffer of a plan is bytes
abbrev pub AllBytes : Plan (List ℕ) → Type 0
AllBytes (part k out) = Bytes out
AllBytes (both l r out) = AllBytes l × AllBytes r × Bytes out

module _ (s : Suite) where
  -- As many bytes from the start of the buffer as the join answers, or its refusal.
  abbrev pub join_out : List ℕ → List ℕ → List ℕ → Answer (List ℕ)
  join_out first second out = and_then (outcome_of (s.join first second out)) (λ (n : ℕ). given (take n (s.after_join first second out)))

  -- each fragment cut out into a buffer, and each two records that are left joined into another
  abbrev pub join_out_all : List ℕ → List ℕ → Plan (List ℕ) → Answer (List ℕ)
  join_out_all network sheet (part k out) = cut_out s network sheet k out
  join_out_all network sheet (both l r out) =
      and_then (join_out_all network sheet l) (λ (F : List ℕ). and_then (join_out_all network sheet r) (λ (G : List ℕ). join_out F G out))

  module _ (first second : List ℕ) where
    abbrev F : List ℕ
    F = joint_record first second

    module _ (out : List ℕ) where
      abbrev c : Result ℕ Refusal
      c = s.join first second out

      -- Demand 1: a refusal leaves the buffer as it was.
      abbrev pub KeepsJoin : Type 0
      KeepsJoin = Bytes first → Bytes second → Bytes out → (r : Refusal) → c ≡ Err r → s.after_join first second out ≡ out

      -- Where none of the refusals up to 24 applies, a buffer with room gets the joint network's record, with the bytes behind it as they were,
      -- and the answer is its length. A shorter one stays as it was, and the answer is the length needed.
      abbrev pub LaysJoint : Type 0
      LaysJoint = Bytes first → Bytes second → Bytes out → NoneApplies (joining_table first second {A = ℕ})
          → (length F ≤ length out → (c ≡ Ok (length F)) × (s.after_join first second out ≡ F ++ drop (length F) out))
          × (length out < length F → (c ≡ Err (record { class = NoRoom; place = length F })) × (s.after_join first second out ≡ out))

      -- Two sound records may stand in either order, with the same answer and the same bytes in the buffer.
      abbrev pub JoinsEitherWay : Type 0
      JoinsEitherWay = Bytes first → Bytes second → Bytes out → SoundRecord first → SoundRecord second
          → (s.join first second out ≡ s.join second first out) × (s.after_join first second out ≡ s.after_join second first out)

      -- A list passes in what a join leaves exactly where it passes in both.
      abbrev pub JoinedVerdict : List ℕ → Type 0
      JoinedVerdict list = Bytes first → Bytes second → Bytes out → Bytes list → (J : List ℕ) → join_out first second out ≡ given J
          → Passed (s.judge J list) ↔ (Passed (s.judge first list) × Passed (s.judge second list))

  module _ (network sheet : List ℕ) (plan : Plan (List ℕ)) where
    -- Demand 3: whatever the order in which a cut's fragments are joined, the network comes back, with the note promised wherever a cut wire
    -- leaves a box that promised nothing.
    abbrev pub RejoinsParts : Type 0
    RejoinsParts = Bytes network → Bytes sheet → AllBytes plan → SheetCuts network sheet → Whole network sheet plan
        → join_out_all network sheet plan ≡ given (promising_record network sheet)

    -- By the same sheet the joined record is cut into the same fragments.
    abbrev pub GivesBack : Type 0
    GivesBack = Bytes network → Bytes sheet → AllBytes plan → SheetCuts network sheet → Whole network sheet plan
        → (J : List ℕ) → join_out_all network sheet plan ≡ given J → (k : ℕ) → k < 256
        → (out out' : List ℕ) → Bytes out → Bytes out' → Roomy (form_of network) out → Roomy (form_of network) out'
        → cut_out s J sheet k out ≡ cut_out s network sheet k out'
