-- Each answer of a check of a sheet or a list, from the tests that the code has made by then.
use Rattle.std.proofs.Common.{None, Option, Result, Some}
use Prim.Native.Nat.{ℕ, ◌+◌, ◌≤◌, ◌<◌}
use mathlib.Core.Path.{◌≡◌, sym, ◌∙◌}
use mathlib.Core.List.{List}
use lib.ListN.{length}
use borrow.Author.Tests.{eq-eqb, ne_eqb, lt-ltb, le-ltb}
use Rattle.lists.specs.First.{first_bad}
use Rattle.numbers.specs.BigEndian.{u16_at, u32_at}
use Rattle.layout.specs.declared.Form.{Form}
use Rattle.layout.specs.declared.Refusal.{Refusal}
use Rattle.entries.specs.Entries.{entries_from, entries_refusal, entry_ok}
use Rattle.layout.specs.Layout.{entry_offset}
use Rattle.lists.specs.Answer.{refused, given}
use Rattle.layout.specs.Form.{formed}
use Rattle.layout.proofs.OneForm.{unnamed, named_form}
use Rattle.layout.specs.Refusals.{check_answer}

module _ (f : Form) (lead : ℕ) (b : List ℕ) (n : ℕ) (c : n ≡ u16_at b 5) where
  pub body_count : f.most < n → refused 13 5 ≡ entries_from f lead b 2
  unfolding entries_from
  body_count l = rw (← c, lt-ltb _ _ l)

  module _ (k : n ≤ f.most) (t s : ℕ) (q : t ≡ entry_offset f lead n) (d : s ≡ u32_at b 0) where
    pub body_length : (s + 4 ≡ t → ⊥) → refused 14 0 ≡ entries_from f lead b 2
    unfolding entries_from
    body_length e = rw (← c, le-ltb _ _ k, ← q, ← d, ne_eqb _ _ e)

    module _ (e : s + 4 ≡ t) where
      pub body_short : length b < t → refused 11 (length b) ≡ entries_from f lead b 2
      unfolding entries_from
      body_short l = rw (← c, le-ltb _ _ k, ← q, ← d, eq-eqb _ _ e, lt-ltb _ _ l)

      module _ (g : t ≤ length b) where
        pub body_behind : t < length b → refused 15 t ≡ entries_from f lead b 2
        unfolding entries_from
        body_behind l = rw (← c, le-ltb _ _ k, ← q, ← d, eq-eqb _ _ e, le-ltb _ _ g, lt-ltb _ _ l)

        pub body_each : (a : Result Form Refusal) → length b ≤ t → check_answer a ≡ entries_from f lead b 6 → check_answer a ≡ entries_from f lead b 2
        unfolding entries_from
        body_each a h z = rw (← c, le-ltb _ _ k, ← q, ← d, eq-eqb _ _ e, le-ltb _ _ g, le-ltb _ _ h) (rw (← c) at z)

  module _ (r : ℕ) (p : r ≡ first_bad (entry_ok f lead b) n) where
    pub each_entry : (o : ℕ) → r < n → o ≡ entry_offset f lead r → refused 16 o ≡ entries_from f lead b 6
    unfolding entries_from
    each_entry o l y = rw (← c, ← p, lt-ltb _ _ l, ← y)

    pub each_fine : n ≤ r → given f ≡ entries_from f lead b 6
    unfolding entries_from
    each_fine l = rw (← c, ← p, le-ltb _ _ l)

pub ruleset body = (body_count, body_length, body_short, body_behind, body_each)

pub ruleset each = (each_entry, each_fine)

module _ (lead : ℕ) (b : List ℕ) where
  pub entries_short : length b < 7 → refused 11 (length b) ≡ entries_refusal lead b
  unfolding entries_refusal
  entries_short l = rw (lt-ltb _ _ l)

  module _ (h : 7 ≤ length b) (g : Option Form) (k : g ≡ formed b) where
    pub entries_version : g ≡ None → refused 12 4 ≡ entries_refusal lead b
    unfolding entries_refusal
    entries_version e = rw (le-ltb _ _ h, unnamed b (sym e ∙ k))

    pub entries_body : (f : Form) (r : Result Form Refusal) → g ≡ Some f → check_answer r ≡ entries_from f lead b 2 → check_answer r ≡ entries_refusal lead b
    unfolding entries_refusal entries_from
    entries_body f r v e = let n = named_form b f (sym v ∙ k) in rw (le-ltb _ _ h, n.1, ← n.0) e

pub ruleset entries = (entries_short, entries_version, entries_body)
