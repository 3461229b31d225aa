-- The fragments that the cutter gives for a sheet that cuts a sound network cover the network, as document 000 has it of its cut.
use mathlib.Core.Path.{◌≡◌, sym}
use Prim.Native.Nat.{ℕ}
use Rattle.networks.specs.Algebra.{Algebra}
use Rattle.networks.specs.Network.{NetworkOver}
use Rattle.networks.specs.Sound.{Bounds, Sound}
use Rattle.networks.specs.Sheets.{Sheet}
use Rattle.lists.specs.Answer.{given}
use Rattle.networks.specs.Cut.{cut, Cuts}
use Rattle.networks.specs.Covering.{Covering}
use Rattle.networks.proofs.Laws.Cutting.{Fits, own_cut, cut_given, cuts_fits}
use Rattle.networks.proofs.Laws.Together.{parts_cover}

pub covering : (𝓐 : Algebra) (B : Bounds) (N : NetworkOver 𝓐) (S : Sheet 𝓐.Route) → Sound B N → Cuts 𝓐 N S
    → Covering N S (λ (k : ℕ) (F : NetworkOver 𝓐). cut 𝓐 N S k ≡ given F)
covering 𝓐 B N S sound cuts =
    let fits : Fits N S = (cuts_fits 𝓐 N S B sound).0 cuts in
    parts_cover B N S sound fits (λ (k : ℕ) (F : NetworkOver 𝓐). cut 𝓐 N S k ≡ given F) (λ k F e. sym (cut_given 𝓐 N S k F e).2) (own_cut 𝓐 N S fits)
