-- What the cutter gives for a sound network is sound again, with no more boxes, wires and policies. So it can be judged, and cut again.
use mathlib.Core.Path.{◌≡◌}
use Prim.Native.Nat.{ℕ}
use Rattle.networks.specs.Algebra.{Algebra}
use Rattle.networks.specs.Network.{NetworkOver}
use Rattle.networks.specs.Sound.{Bounds, Sound, NoMore}
use Rattle.networks.specs.Sheets.{Sheet}
use Rattle.lists.specs.Answer.{given}
use Rattle.networks.specs.Cut.{only, cut}
use Rattle.networks.proofs.Laws.Cutting.{cut_given}
use Rattle.networks.proofs.Laws.Soundness.{fragment_less, fragment_sound}

pub cut_sound : (𝓐 : Algebra) (B : Bounds) (N F : NetworkOver 𝓐) (S : Sheet 𝓐.Route) (k : ℕ)
    → Sound B N → cut 𝓐 N S k ≡ given F → Sound B F × NoMore F N
cut_sound 𝓐 B N F S k sound e =
    let c = cut_given 𝓐 N S k F e in
    rw (← c.2) (fragment_sound N S B (only k) sound c.0.entered c.1, fragment_less N S (only k))
