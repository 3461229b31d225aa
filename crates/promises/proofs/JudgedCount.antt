-- The judged count, proved: the laws of the counts, case by case.
use mathlib.Core.Path.{◌≡◌, refl}
use mathlib.Core.List.{List}
use Prim.Native.Nat.{ℕ}
use Rattle.lists.specs.Answer.{Answer, given, refused}
use Rattle.routes.specs.declared.Route.{Route}
use Rattle.networks.specs.Judge.{Verdict, pass, found, judged}
use Rattle.reading.specs.Whole.{network_of}
use Rattle.judging.specs.Judging.{judge_records}
use Rattle.judging.proofs.OnBytes.{pass_judged, found_judged}
use Rattle.promises.specs.JudgedCount.{count_of, JudgedCount}

pub judged_count : (network list : List ℕ) → JudgedCount network list
judged_count network list small = go (judge_records network list) refl
  where
    go : (a : Answer (Verdict Route)) → judge_records network list ≡ a → judged a ≡ count_of (network_of network) a
    go (given (pass count)) e = pass_judged network list small count e
    go (given (found number node route count)) e = found_judged network list small number node count route e
    go (refused number place) e = refl
