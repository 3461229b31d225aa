-- Every policy adds at least 1, proved: one that adds 0 is ill formed, and the first that is ill formed gives the place.
use Rattle.layout.specs.declared.Refusal.{Refusal}
use Rattle.std.proofs.Common.{Err, Ok}
use mathlib.Core.Path.{◌≡◌, refl, sym, ◌∙◌}
use mathlib.Core.Bool.{false}
use mathlib.Core.List.{List}
use Prim.Native.Nat.{ℕ, ◌<◌}
use native.Mathlib.Omega.{arith}
use lib.ListN.{length}
use Rattle.lists.specs.Answer.{given, refused}
use Rattle.lists.proofs.Answer.{first_behind}
use Rattle.lists.proofs.First.{first_all, first_fails, first_before}
use Rattle.routes.proofs.PolicyCodec.{zero_ill}
use Rattle.layout.specs.Form.{form_of}
use Rattle.layout.specs.Layout.{policy_count, policy_offset}
use Rattle.nodes.specs.Policy.{policy_ok}
use Rattle.records.specs.Network.{bad_policy, network_table, network_from, network_refusal}
use Rattle.records.proofs.Fine.{network_fine}
use Rattle.records.proofs.NetworkRefusals.{parts_policy}
use Rattle.reading.specs.Whole.{network_of}
use Rattle.reading.proofs.Adding.{fine_adds, wire_dearer}
use Rattle.judging.specs.Judging.{judge_records}
use Rattle.judging.specs.declared.Verdict.TheVariants as verdict
use Rattle.cutting.specs.Cutting.{cut_network, cut_records}
use Rattle.outcomes.proofs.Outcomes.{one_outcome}
use Rattle.promises.specs.Policies.{ill_policy, Framed, added_by, ZeroRefused, PoliciesAdd, WiresCost, ReturnsIllPolicy}
use Rattle.promises.specs.Suite.{Suite}
use Rattle.promises.proofs.Answers.{verdict_is, cut_said_lem, keeps_buffer}

module _ (network : List ℕ) where
  -- the first ill-formed policy
  abbrev j : ℕ
  j = bad_policy (form_of network) network

  ill : (i : ℕ) → added_by network i ≡ 0 → policy_ok network i ≡ false
  unfolding policy_ok
  ill i e = zero_ill network (policy_offset i) e

  -- behind the rows of 1 to 5 it decides
  six : Framed network → j < policy_count network → network_refusal network ≡ refused 6 (policy_offset j)
  unfolding network_refusal network_from
  six framed l =
      first_behind 6 (network_table (form_of network) network) (given (form_of network)) framed
      ∙ sym (parts_policy (form_of network) network (policy_count network) j refl refl (policy_offset j) l refl)

  pub zero_refused : ZeroRefused network
  unfolding judge_records cut_network cut_records
  zero_refused framed i l e =
      let early = first_before (policy_ok network) (policy_count network) i (ill i e) in
      let within : j < policy_count network = omega arith in
      let refusal = six framed within in (
        j,
        early,
        (first_fails (policy_ok network) (policy_count network) within, first_all (policy_ok network) (policy_count network)),
        refusal,
        λ list. rw refusal refl,
        λ sheet k room. rw refusal refl,
      )

  pub policies_add : PoliciesAdd network
  policies_add sound = fine_adds (form_of network) network (network_fine network sound)

  pub wires_cost : WiresCost network
  wires_cost sound top = wire_dearer top (network_of network) (policies_add sound)

  pub returns_ill_policy : (s : Suite) → ReturnsIllPolicy network s
  returns_ill_policy s small framed i l e =
      let z = zero_refused framed i l e in
      let refusal = ill_policy z.0 in (
        z.0,
        z.1,
        z.2,
        λ list list_small. verdict_is s network list small list_small (verdict.Refused refusal) (z.4 list),
        λ sheet k out sheet_small asked out_small.
            let c : s.cut network sheet k out ≡ Err refusal =
            one_outcome _ (s.cut network sheet k out) (Err refusal) (cut_said_lem s network sheet k out small sheet_small asked out_small) (sym (z.5 sheet k (length out))) in
            (c, keeps_buffer s network sheet k out small sheet_small asked out_small refusal c),
      )
