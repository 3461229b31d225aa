-- Judged counts over the fragments of one cut.
--     sum          f 0 + .. + f (n - 1)
--     judged_in     the judged count in one fragment
use Rattle.std.specs.Prelude.{ℕ, zero, suc, ◌+◌}
use Rattle.lists.specs.Answer.{and_then}
use Rattle.networks.specs.Algebra.{Algebra}
use Rattle.networks.specs.Network.{NetworkOver}
use Rattle.networks.specs.Sheets.{Sheet, RouteList}
use Rattle.networks.specs.Judge.{judge, judged}
use Rattle.networks.specs.Cut.{cut}

unfoldable pub sum : (ℕ → ℕ) → ℕ → ℕ
sum f zero = 0
sum f (suc n) = sum f n + f n

-- how many own boxes of fragment k are judged: as a refusal's count is 0, none where no own box has the number
abbrev pub judged_in : (𝓐 : Algebra) → NetworkOver 𝓐 → Sheet 𝓐.Route → RouteList 𝓐.Route → ℕ → ℕ
judged_in 𝓐 N S L k = judged (and_then (cut 𝓐 N S k) (λ (F : NetworkOver 𝓐). judge 𝓐 F L))
