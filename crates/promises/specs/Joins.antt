-- Any two records, joined (document 02, K3), on bytes; buffers hold what they hold. What demand 3 says of the fragments of one cut is in Reunion.
--     JoinLays, JoinSays                the joint network's record in a buffer; what each of 21 to 24 says of the two networks
--     JoinSound, JoinIs                 the record is a sound one of both networks' own boxes, all wires, and inputs that neither owns
--     JoinCommutes, JoinAssociates      in either order, in either grouping
--     JoinPasses, JoinCounts            a list passes in the joint network exactly where it passes in both
use Rattle.std.specs.Prelude.{◌≡◌, List, ◌++◌, ◌↔◌, ℕ, ◌+◌, ◌≤◌, ◌<◌, length, drop}
use Rattle.lists.specs.Answer.{given, refused, and_then, NoneApplies}
use Rattle.lists.specs.Bytes.{Bytes}
use Rattle.networks.specs.Join.{joining}
use Rattle.networks.specs.Judge.{pass}
use Rattle.networks.specs.Joint.{Joint, JoinRefused}
use Rattle.layout.specs.Form.{form_of}
use Rattle.records.specs.Network.{SoundRecord}
use Rattle.reading.specs.Largest.{largest_network}
use Rattle.reading.specs.Whole.{bounds, network_of}
use Rattle.judging.specs.Judging.{judge_records}
use Rattle.joining.specs.Joining.{join_records, join_buffer}
use Rattle.promises.specs.Calls.{house1, Passes, join_into}
use Rattle.promises.specs.Demand1.{joining_table, joint_record}

module _ (first second : List ℕ) where
  abbrev F : List ℕ
  F = joint_record first second

  -- Where none of the refusals up to 24 applies, a buffer with room gets the joint network's record, with the bytes behind it as they were, and
  -- the answer is its length. A shorter one stays as it was, and the answer is 20 with the length needed.
  abbrev pub JoinLays : List ℕ → Type 0
  JoinLays out = NoneApplies (joining_table first second {A = ℕ})
      → (length F ≤ length out → (join_records first second (length out) ≡ given (length F)) × (join_buffer first second out ≡ F ++ drop (length F) out))
      × (length out < length F → (join_records first second (length out) ≡ refused 20 (length F)) × (join_buffer first second out ≡ out))

  -- Two sound records are refused for another reason than the room exactly where one of 21 to 24 says so: 21 the lowest id of a box that both own;
  -- 22 the lowest id of a box of which one assumes what the other does not promise, or not assume; 23 other policies; 24 too many boxes or wires.
  abbrev pub JoinSays : Type 0
  JoinSays = Bytes first → Bytes second → SoundRecord first → SoundRecord second → (number place room : ℕ) → (number ≡ 20 → ⊥)
      → (join_records first second room ≡ refused number place) ↔ JoinRefused house1 (bounds (form_of first)) (network_of first) (network_of second) number place

  -- What a join leaves is a sound record in the first's form, no longer than the largest, so that it can be judged, cut and joined again; it says
  -- the joint network of what the two say.
  abbrev pub JoinSound : Type 0
  JoinSound = Bytes first → Bytes second → (out J : List ℕ) → join_into first second out ≡ given J
      → SoundRecord J × Bytes J × (form_of J ≡ form_of first) × (length J ≤ largest_network (form_of first))
      × (network_of J ≡ joining (network_of first) (network_of second))

  -- It has the own boxes of both, all wires, and the inputs that neither owns.
  abbrev pub JoinIs : Type 0
  JoinIs = Bytes first → Bytes second → (out J : List ℕ) → join_into first second out ≡ given J
      → Joint (network_of first) (network_of second) (network_of J)

  -- Two sound records may stand in either order: buffers of one length get the same bytes, or the same refusal with the same place.
  abbrev pub JoinCommutes : Type 0
  JoinCommutes = Bytes first → Bytes second → SoundRecord first → SoundRecord second → (out out' : List ℕ) → length out ≡ length out'
      → join_into first second out ≡ join_into second first out'

  -- Three records may be grouped either way: where both ways are given, they give the same bytes.
  abbrev pub JoinAssociates : List ℕ → Type 0
  JoinAssociates third = Bytes first → Bytes second → Bytes third → (o₁ o₂ o₃ o₄ X Y : List ℕ)
      → and_then (join_into first second o₁) (λ (G : List ℕ). join_into G third o₂) ≡ given X
      → and_then (join_into second third o₃) (λ (G : List ℕ). join_into first G o₄) ≡ given Y
      → X ≡ Y

  -- A list passes in what a join leaves exactly where it passes in both records: a site's part can be judged alone. (Where a list is
  -- ill formed, or lacks an entry for an own box of one of the two, both sides fail.)
  abbrev pub JoinPasses : List ℕ → Type 0
  JoinPasses list = Bytes first → Bytes second → (out J : List ℕ) → join_into first second out ≡ given J
      → Passes J list ↔ (Passes first list × Passes second list)

  -- On a pass the judged counts add up.
  abbrev pub JoinCounts : List ℕ → Type 0
  JoinCounts list = Bytes first → Bytes second → (out J : List ℕ) → join_into first second out ≡ given J → (n m : ℕ)
      → judge_records first list ≡ given (pass n) → judge_records second list ≡ given (pass m) → judge_records J list ≡ given (pass (n + m))
