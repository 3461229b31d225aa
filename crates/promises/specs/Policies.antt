-- Every policy adds at least 1 (document 02, K1), on bytes: whoever quotes a route pays for it.
--     ill_policy                           the refusal of a policy
--     Framed, added_by, FirstIll           none of 1 to 5 applies; what a policy adds; the first ill-formed one
--     ZeroRefused, ReturnsIllPolicy       a policy that adds 0 is refused, used or not: by the definitions, and by what a suite returns
--     PoliciesAdd, WiresCost              what is left of a sound network
use Rattle.std.specs.Prelude.{◌≡◌, true, false, List, ℕ, ◌≤◌, ◌<◌, take, Err, Ok}
use Rattle.lists.specs.Answer.{refused, NoneApplies}
use Rattle.lists.specs.Bytes.{Bytes}
use Rattle.routes.specs.Form.{policy_at}
use Rattle.routes.specs.declared.Fields.{Fields}
use Rattle.routes.specs.declared.Route.TheVariants.{Held}
use Rattle.networks.specs.Network.{Wire}
use Rattle.networks.specs.Solution.{trans}
use Rattle.layout.specs.Form.{form_of}
use Rattle.layout.specs.Layout.{policy_count, policy_offset}
use Rattle.layout.specs.declared.Class.TheVariants.{IllPolicy}
use Rattle.layout.specs.declared.Form.{Form}
use Rattle.layout.specs.declared.Refusal.{Refusal}
use Rattle.nodes.specs.Policy.{policy_ok}
use Rattle.records.specs.Network.{network_table, network_refusal, SoundRecord}
use Rattle.reading.specs.Adding.{Adding}
use Rattle.reading.specs.House.{house}
use Rattle.reading.specs.Whole.{network_of}
use Rattle.judging.specs.Judging.{judge_records}
use Rattle.judging.specs.declared.Verdict.TheVariants as verdict
use Rattle.cutting.specs.Cutting.{cut_records}
use Rattle.promises.specs.Suite.{Suite}

-- the refusal of the j-th policy
abbrev pub ill_policy : ℕ → Refusal
ill_policy j = record { class = IllPolicy; place = policy_offset j }

module _ (network : List ℕ) where
  -- none of the rows of 1 to 5 applies, of which there are six, as 1 stands twice
  abbrev pub Framed : Type 0
  Framed = NoneApplies (take 6 (network_table (form_of network) network {A = Form}))

  -- what the i-th policy adds
  abbrev pub added_by : ℕ → ℕ
  added_by i = (policy_at network (policy_offset i)).added

  -- the j-th policy is the first that is ill formed, by whatever fault
  abbrev pub FirstIll : ℕ → Type 0
  FirstIll j = (policy_ok network j ≡ false) × ((k : ℕ) → k < j → policy_ok network k ≡ true)

  -- Where a policy adds 0, whether a wire uses it or not, the network is refused with 6 at the offset of the first ill-formed policy, that one
  -- or one before it; so is every call with it, whatever else is handed over.
  abbrev pub ZeroRefused : Type 0
  ZeroRefused = Framed → (i : ℕ) → i < policy_count network → added_by i ≡ 0
      → (j : ℕ) × (j ≤ i) × FirstIll j
      × (network_refusal network ≡ refused 6 (policy_offset j))
      × ((list : List ℕ) → judge_records network list ≡ refused 6 (policy_offset j))
      × ((sheet : List ℕ) (k room : ℕ) → cut_records network sheet k room ≡ refused 6 (policy_offset j))

  -- Every policy of a sound network adds at least 1.
  abbrev pub PoliciesAdd : Type 0
  PoliciesAdd = SoundRecord network → Adding (network_of network)

  -- A route that comes over a wire of a sound network costs more than it did before, whatever the highest cost that a wire may give.
  abbrev pub WiresCost : Type 0
  WiresCost = SoundRecord network → (top : ℕ) (w : Wire) (f g : Fields) → trans (house top) (network_of network) w (Held f) ≡ Held g → f.cost < g.cost

  -- `ZeroRefused` of what a suite returns; the cutter leaves the buffer as it was.
  abbrev pub ReturnsIllPolicy : Suite → Type 0
  ReturnsIllPolicy s = Bytes network → Framed → (i : ℕ) → i < policy_count network → added_by i ≡ 0
      → (j : ℕ) × (j ≤ i) × FirstIll j
      × ((list : List ℕ) → Bytes list → s.judge network list ≡ verdict.Refused (ill_policy j))
      × ((sheet : List ℕ) (k : ℕ) (out : List ℕ) → Bytes sheet → k < 256 → Bytes out
      → (s.cut network sheet k out ≡ Err (ill_policy j)) × (s.after network sheet k out ≡ out))
