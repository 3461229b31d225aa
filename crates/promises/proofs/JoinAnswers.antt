-- Joining, about what the functions return, proved: a suite's joiner has the numbers and values of the definitions' answers, two outcomes with the
-- same are one, and so each statement follows from the one about the definitions.
--     leaves_joint, join_said_lem, kept_said, out_said     the joiner and its buffer, from its outcome to the definitions
--     all_said, plan_said                              a plan of cuts and joins
use mathlib.Core.Path.{◌≡◌, refl, sym, ap₂, ◌∙◌, subst}
use mathlib.Core.List.{List}
use mathlib.Core.Logic.{◌↔◌}
use Prim.Native.Nat.{ℕ, ◌<◌}
use lib.ListN.{length, take}
use Rattle.lists.specs.All.{All}
use Rattle.lists.specs.Answer.{Answer, given, refused, and_then}
use Rattle.lists.specs.Bytes.{Bytes}
use Rattle.lists.proofs.All.{all_map, append_all}
use Rattle.lists.proofs.Answer.{given_same, then_given}
use Rattle.networks.specs.Reunion.{Plan, part, both, numbers}
use Rattle.outcomes.specs.Outcomes.{outcome_of}
use Rattle.outcomes.proofs.Outcomes.{one_outcome}
use Rattle.joining.specs.Joining.{join_records, join_buffer}
use Rattle.promises.specs.Answers.{Passed}
use Rattle.promises.specs.Calls.{Passes, join_into, SheetCuts}
use Rattle.promises.specs.Demand1.{joining_table, joint_record}
use Rattle.promises.specs.JoinAnswers.{AllBytes, join_out, join_out_all, KeepsJoin, LaysJoint, JoinsEitherWay, JoinedVerdict, RejoinsParts, GivesBack}
use Rattle.promises.specs.Reunion.{join_all, Whole}
use Rattle.promises.specs.Suite.{Suite, join_leaves}
use Rattle.promises.proofs.Answers as answers
use Rattle.promises.proofs.Demand1.{join_refuses, join_keeps}
use Rattle.promises.proofs.Joins.{join_lays, join_sound, join_passes, same_join}
use Rattle.promises.proofs.Laying.{leaves_laid, lays, keeps}
use Rattle.promises.proofs.Reunion.{parts_join, promising_sound, cut_back}
use Rattle.promises.proofs.Cuts.{there_asked, cuts_network, cuts_sheet}

module _ (s : Suite) where
  module _ (first second out : List ℕ) where
    pub lays_joint : LaysJoint s first second out
    lays_joint small second_small out_small =
        let c = s.joins first second out small second_small out_small in
        lays (joining_table first second) (joint_record first second) out (s.join first second out) (s.after_join first second out) c.0 c.1

    pub keeps_join : KeepsJoin s first second out
    keeps_join small second_small out_small =
        let c = s.joins first second out small second_small out_small in
        keeps (joining_table first second) (joint_record first second) out (s.join first second out) (s.after_join first second out) c.0 c.1

-- what is left in the buffer is what the definition of the joiner leaves there
pub leaves_joint : (first second out : List ℕ) → join_leaves first second out ≡ join_buffer first second out
leaves_joint first second out = leaves_laid (joining_table first second) (joint_record first second) out (join_buffer first second out) refl
    (λ number place e. join_keeps first second out number place (join_refuses first second (length out) ∙ e))
    (λ h room. ((join_lays first second out h).0 room).1)

module _ (s : Suite) where
  module _ (first second out : List ℕ) where
    module _ (small : Bytes first) (second_small : Bytes second) (out_small : Bytes out) where
      join_said_lem : outcome_of (s.join first second out) ≡ join_records first second (length out)
      join_said_lem = (s.joins first second out small second_small out_small).0 ∙ sym (join_refuses first second (length out))

      kept_said : s.after_join first second out ≡ join_buffer first second out
      kept_said = (s.joins first second out small second_small out_small).1 ∙ leaves_joint first second out

      out_said : join_out s first second out ≡ join_into first second out
      unfolding join_into
      out_said = ap₂ (λ (a : Answer ℕ) (b : List ℕ). and_then a (λ (n : ℕ). given (take n b))) join_said_lem kept_said

    pub joined_verdict : (list : List ℕ) → JoinedVerdict s first second out list
    joined_verdict list small second_small out_small list_small J e =
        let q = sym (out_said small second_small out_small) ∙ e in
        let t = join_passes first second list small second_small out J q in
        let j = passed J (join_sound first second small second_small out J q).1 in
        let a = passed first small in
        let b = passed second second_small in
        (λ p. let w = t.0 (j.0 p) in (a.1 w.0, b.1 w.1), λ p. j.1 (t.1 (a.0 p.0, b.0 p.1)))
      where
        passed : (network : List ℕ) → Bytes network → Passed (s.judge network list) ↔ Passes network list
        passed network network_small = answers.passed s network list network_small list_small

  pub joins_either_way : (first second out : List ℕ) → JoinsEitherWay s first second out
  joins_either_way first second out small second_small out_small n m =
      let e = same_join first second small second_small n m out in (
        one_outcome _ (s.join first second out) (s.join second first out) (join_said_lem first second out small second_small out_small)
            (join_said_lem second first out second_small small out_small ∙ sym e.0),
        kept_said first second out small second_small out_small ∙ e.1 ∙ sym (kept_said second first out second_small small out_small),
      )

  module _ (network sheet : List ℕ) (small : Bytes network) (sheet_small : Bytes sheet) where
    -- a plan by a suite leaves what a plan by the definitions leaves, where every fragment is asked by a byte
    all_said : (plan : Plan (List ℕ)) → AllBytes plan → All (λ (k : ℕ). k < 256) (numbers plan)
        → (join_out_all s network sheet plan ≡ join_all network sheet plan)
        × ((J : List ℕ) → join_all network sheet plan ≡ given J → Bytes J)
    all_said (part k out) out_small asked = (
      answers.out_said s network sheet k out small sheet_small asked.0 out_small,
      λ J e. answers.out_bytes network sheet k out small sheet_small J e,
    )
    all_said (both l r out) out_small asked =
        let parts = append_all (λ (k : ℕ). k < 256) (numbers l) (numbers r) asked in
        let a = all_said l out_small.0 parts.0 in
        let b = all_said r out_small.1 parts.1 in (
          ap₂ (λ (x y : Answer (List ℕ)). and_then x (λ (F : List ℕ). and_then y (λ (G : List ℕ). join_out s F G out))) a.0 b.0
              ∙ go a.1 b.1 (join_all network sheet l) refl (join_all network sheet r) refl,
          λ J e.
              let f = then_given (join_all network sheet l) _ J e in
              let g = then_given (join_all network sheet r) _ J f.2 in
              (join_sound f.0 g.0 (a.1 f.0 f.1) (b.1 g.0 g.1) out J g.2).1,
        )
      where
        go : ((J : List ℕ) → join_all network sheet l ≡ given J → Bytes J) → ((J : List ℕ) → join_all network sheet r ≡ given J → Bytes J)
            → (x : Answer (List ℕ)) → join_all network sheet l ≡ x → (y : Answer (List ℕ)) → join_all network sheet r ≡ y
            → and_then x (λ (F : List ℕ). and_then y (λ (G : List ℕ). join_out s F G out)) ≡ and_then x (λ (F : List ℕ). and_then y (λ (G : List ℕ). join_into F G out))
        go f g (given F) p (given G) q = out_said F G out (f F p) (g G q) out_small.2
        go f g (given F) p (refused n at) q = refl
        go f g (refused n at) p y q = refl

    -- every number of a plan of fragments is a byte
    plan_said : (plan : Plan (List ℕ)) → AllBytes plan → SheetCuts network sheet → Whole network sheet plan
        → join_out_all s network sheet plan ≡ join_all network sheet plan
    plan_said plan out_small cuts w = (all_said plan out_small
        (all_map (numbers plan) (λ k t. there_asked network sheet sheet_small (cuts_sheet network sheet cuts) k t) w.there)).0

  pub rejoins_parts : (network sheet : List ℕ) (plan : Plan (List ℕ)) → RejoinsParts s network sheet plan
  rejoins_parts network sheet plan small sheet_small out_small cuts w =
      plan_said network sheet small sheet_small plan out_small cuts w ∙ parts_join network sheet plan small sheet_small cuts w

  pub gives_back : (network sheet : List ℕ) (plan : Plan (List ℕ)) → GivesBack s network sheet plan
  gives_back network sheet plan small sheet_small plan_small cuts w J e k asked out out' out_small out_small' roomy roomy' =
      let q = sym (plan_said network sheet small sheet_small plan plan_small cuts w) ∙ e in
      let same = given_same (sym (parts_join network sheet plan small sheet_small cuts w) ∙ q) in
      let j = subst Bytes same (promising_sound network sheet small sheet_small (cuts_network network sheet cuts)).1 in
      answers.out_said s J sheet k out j sheet_small asked out_small
      ∙ (cut_back network sheet plan small sheet_small cuts w J q).1 k out out' roomy roomy'
      ∙ sym (answers.out_said s network sheet k out' small sheet_small asked out_small')
