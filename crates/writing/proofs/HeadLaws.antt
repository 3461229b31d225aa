-- What stands before the nodes, as the code lays it.
--     sized                          the length by the counts
--     counts_stored, head_stored     the counts; the head
--     policies                       the policies of a record, copied
use Prim.Native.Nat.{ℕ, ◌+◌, ◌-◌, ◌≤◌}
use native.Mathlib.Omega.{arith}
use mathlib.Core.List.{List, [], ◌∷◌}
use mathlib.Core.Path.{◌≡◌, sym, ◌∙◌}
use lib.ListN.{length, take, drop}
use lib.Seq.{sets}
use Rattle.lists.specs.Laid.{over}
use Rattle.lists.proofs.Laid.{stored_over}
use Rattle.lists.specs.Stride.{at}
use Rattle.numbers.specs.BigEndian.{u16_bytes, u32_bytes}
use Rattle.numbers.proofs.RunLaws.{part_long}
use Rattle.layout.specs.Form.{node_width}
use Rattle.layout.specs.Layout.{policy_offset, node_part}
use Rattle.layout.specs.declared.Form.{Form}
use Rattle.writing.specs.Heads.{count_bytes, head_bytes, policies_in, size_of}

pub sized : (f : Form) (policies nodes edges p n e first width behind size : ℕ) → p ≡ policies → n ≡ nodes → e ≡ edges → first ≡ policy_offset p
    → width ≡ node_width f → behind ≡ at first width n → size ≡ at behind 5 e → size ≡ size_of f policies nodes edges
unfolding size_of
sized f policies nodes edges p n e first width behind size a b c q v r s = rw (s, r, v, q, a, b, c)

pub counts_stored : (nodes edges policies : ℕ) (out one two three : List ℕ) → one ≡ sets out 5 (u16_bytes nodes) → two ≡ sets one 7 (u16_bytes edges)
    → three ≡ sets two 9 (policies ∷ []) → three ≡ sets out 5 (count_bytes nodes edges policies)
unfolding count_bytes u16_bytes
counts_stored nodes edges policies out one two three p q r = r ∙ rw (q, p)

pub head_stored : (version size nodes edges policies : ℕ) (out one two three : List ℕ) → 10 ≤ length out → one ≡ sets out 0 (u32_bytes (size - 4))
    → two ≡ sets one 4 (version ∷ []) → three ≡ sets two 5 (count_bytes nodes edges policies) → three ≡ over (head_bytes version size nodes edges policies) out
unfolding head_bytes count_bytes u32_bytes u16_bytes
head_stored version size nodes edges policies out one two three room p q r = stored_over out three _ room (r ∙ rw (q, p))

module _ (b : List ℕ) (first : ℕ) (q : first ≡ node_part b) (low : 10 ≤ first) (there : node_part b ≤ length b) where
  pub policies_size : first - 10 ≡ length (policies_in b)
  unfolding policies_in
  policies_size = rw (← q) (sym (part_long b 10 (first - 10) (omega arith)))

  module _ (out : List ℕ) (room : length (policies_in b) ≤ length out) where
    pub policies_fit : 0 + (first - 10) ≤ length out
    policies_fit = omega (arith, policies_size)

    pub policies_laid : (out' : List ℕ) → out' ≡ sets out 0 (take (first - 10) (drop 10 b)) → out' ≡ over (policies_in b) out
    unfolding policies_in
    policies_laid out' e = stored_over out out' (policies_in b) room (e ∙ rw q)

pub ruleset policies = (policies_size, policies_fit, policies_laid)
