-- Neighbouring pieces of a list of bytes put together again, and the first bytes of a record.
use mathlib.Core.Path.{◌≡◌, sym, ap, ◌∙◌}
use mathlib.Core.List.{List, ◌∷◌, ◌++◌}
use Prim.Native.Nat.{ℕ, ◌+◌, ◌≤◌, ◌<◌}
use native.Mathlib.Numerals.{add-one}
use native.Mathlib.Omega.{arith}
use lib.ListN.{length, get_or, take, drop, take-append-drop, length-drop}
use lib.Seq.{drop-drop, drop-cons}
use Rattle.lists.specs.Bytes.{Bytes}
use Rattle.numbers.specs.BigEndian.{u16_at, u32_at, u16_bytes, u32_bytes}
use Rattle.reading.specs.Whole.{record_of}
use Rattle.numbers.proofs.Codecs.{u16, u32, u32_value, u32_bytes_lem}
use Rattle.layout.specs.Form.{versioned}
use Rattle.layout.specs.declared.Form.{Form}
use mathlib.Core.Bool.{true}
use Rattle.layout.proofs.OneForm.{version_byte}

module _ (b : List ℕ) where
  -- a piece and what is behind it
  pub piece_on : (o m : ℕ) → take m (drop o b) ++ drop (o + m) b ≡ drop o b
  piece_on o m = ap (◌++◌ (take m (drop o b))) (sym (drop-drop m o b)) ∙ take-append-drop m (drop o b)

  pub byte_on : (o : ℕ) → o < length b → get_or b o 0 ∷ drop (o + 1) b ≡ drop o b
  byte_on o h = sym (drop-cons b o 0 h ∙ ap (λ (k : ℕ). get_or b o 0 ∷ drop k b) (sym (add-one o)))

  module _ (small : Bytes b) where
    pub u16_on : (o : ℕ) → o + 2 ≤ length b → u16_bytes (u16_at b o) ++ drop (o + 2) b ≡ drop o b
    u16_on o h = ap (λ (l : List ℕ). l ++ drop (o + 2) b) (u16.forth b o h (small o, small (o + 1))) ∙ piece_on o 2

    pub u32_on : (o : ℕ) → o + 4 ≤ length b → u32_bytes (u32_at b o) ++ drop (o + 4) b ≡ drop o b
    u32_on o h =
        ap (λ (l : List ℕ). l ++ drop (o + 4) b)
        (sym (u32_bytes_lem (u32_at b o)) ∙ ap u32.bytes (sym (u32_value b o)) ∙ u32.forth b o h ((small o, small (o + 1)), (small (o + 2), small (o + 2 + 1))))
        ∙ piece_on o 4

    -- a record's length field and version before the rest
    pub record_on : (f : Form) → 5 ≤ length b → versioned f b ≡ true → u32_at b 0 + 4 ≡ length b → record_of f (drop 5 b) ≡ b
    record_on f long version said =
        let field : length (drop 5 b) + 1 ≡ u32_at b 0 = rw length-drop (omega arith) in
        rw field
        (ap (λ (v : ℕ). u32_bytes (u32_at b 0) ++ (v ∷ drop 5 b)) (sym (version_byte f b version))
        ∙ ap (◌++◌ (u32_bytes (u32_at b 0))) (byte_on 4 (omega arith))
        ∙ u32_on 0 (omega arith))
