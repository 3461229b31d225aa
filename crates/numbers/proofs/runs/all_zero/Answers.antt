-- The fold gathers the bits that the bytes have between them: none where all bytes are zero (bits_none).
use mathlib.Core.Path.{◌≡◌, ap, ◌∙◌}
use Prim.Native.Nat.{ℕ}
use lib.Bits.{bit_or}
use lib.Dec.{eqb}
use lib.ListN.{take, drop}
use borrow.Author.Rules.{rules}
use Rattle.std.specs.List.{fold}
use Rattle.numbers.proofs.RunLaws.{bits_none}
use Rattle.numbers.proofs.runs.all_zero.Goals as goal

pub returns : goal.returns
returns c =
    let e : c.fold.result ≡ fold bit_or 0 (take c.args.n (drop c.args.at c.args.b.now)) = search rules in
    ap (λ (x : ℕ). eqb x 0) e ∙ bits_none c.args.b.now c.args.at c.args.n c.requires
