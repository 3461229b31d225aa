-- What "none of 11 to 16 applies" comes to, fact by fact, and back; and what follows for a reader.
--     none_bad, bad_none               a row "the first bad one is below the count" that did not apply
--     entries_fine, fine_entries       the facts, over the form
--     fine_entries_room                the record is as long as its count says
--     entry_ids_rise, entry_..         ids rise, and the row of an entry by its id
use Prim.Native.Nat.{ℕ, ◌+◌, ◌≤◌, ◌<◌}
use native.Mathlib.Omega.{arith}
use mathlib.Core.Path.{◌≡◌, refl}
use mathlib.Core.Bool.{Bool, true, false}
use mathlib.Core.List.{List}
use lib.Dec.{ltb}
use lib.ListN.{length}
use borrow.Author.Tests.{ltb-false, le-ltb, eqb-true, eq-eqb, not-false, leb-true}
use Rattle.lists.specs.Answer.{given}
use Rattle.lists.specs.First.{first_bad}
use Rattle.lists.specs.Rising.{Rising, least}
use Rattle.lists.proofs.Answer.{first_given}
use Rattle.lists.proofs.First.{first_none, first_all}
use Rattle.lists.proofs.Rising.{least_rising, place_found, place_is}
use Rattle.lists.proofs.Test.{and_l}
use Rattle.numbers.specs.BigEndian.{u32_at}
use Rattle.layout.specs.Form.{form_of, Usable}
use Rattle.layout.specs.Layout.{EntriesRoom, entry_count, entry_offset}
use Rattle.layout.specs.declared.Form.{Form}
use Rattle.entries.specs.Entries.{entry_id, entry_ok, entry_of, entries_table, entries_refusal, WellFormed, EntriesFine}

pub none_bad : (ok : ℕ → Bool) (n : ℕ) → ltb (first_bad ok n) n ≡ false → (i : ℕ) → i < n → ok i ≡ true
none_bad ok n e i l = let h = ltb-false (first_bad ok n) n e in first_all ok n i (omega arith)

pub bad_none : (ok : ℕ → Bool) (n : ℕ) → ((i : ℕ) → i < n → ok i ≡ true) → ltb (first_bad ok n) n ≡ false
bad_none ok n h = let e = first_none ok n h in le-ltb (first_bad ok n) n (omega arith)

pub entries_fine : (lead : ℕ) (b : List ℕ) → WellFormed lead b → EntriesFine (form_of b) lead b
unfolding entries_refusal
entries_fine lead b h =
    let f = form_of b in
    let end = entry_offset f lead (entry_count b) in
    let r = (first_given (entries_table f lead b) (given f) f refl h).0 in
    let low = ltb-false (length b) end r.1.1.1.1.0 in
    let high = ltb-false end (length b) r.1.1.1.1.1.0 in
    record {
      long = ltb-false (length b) 7 r.0;
      version = not-false _ r.1.0;
      few = ltb-false f.most (entry_count b) r.1.1.0;
      said = eqb-true (u32_at b 0 + 4) end (not-false _ r.1.1.1.0);
      whole = omega arith;
      entries = none_bad (entry_ok f lead b) (entry_count b) r.1.1.1.1.1.1.0;
    }

pub fine_entries : (lead : ℕ) (b : List ℕ) → EntriesFine (form_of b) lead b → WellFormed lead b
unfolding entries_refusal
fine_entries lead b h =
    let f = form_of b in
    let end = entry_offset f lead (entry_count b) in
    let e = h.whole in
    rw (
      le-ltb (length b) 7 h.long,
      h.version,
      le-ltb f.most (entry_count b) h.few,
      eq-eqb (u32_at b 0 + 4) end h.said,
      le-ltb (length b) end (omega arith),
      le-ltb end (length b) (omega arith),
      bad_none (entry_ok f lead b) (entry_count b) h.entries,
    )

pub fine_entries_room : (f : Form) (lead : ℕ) (b : List ℕ) → Usable f → (2 ≤ lead) × (lead ≤ 3) → EntriesFine f lead b → EntriesRoom f lead b
fine_entries_room f lead b u l n = record { usable = u; led = l; long = n.long; whole = let h = n.whole in omega arith }

module _ (f : Form) (lead : ℕ) (b : List ℕ) where
  -- entries that are all well formed have rising ids
  pub entry_ids_rise : (n : ℕ) → ((i : ℕ) → i < n → entry_ok f lead b i ≡ true) → Rising (entry_id f lead b) n
  unfolding entry_ok
  entry_ids_rise n h = least_rising (entry_id f lead b) n (λ k l. leb-true (least (entry_id f lead b) k) (entry_id f lead b k) (and_l _ _ (h k l)))

  module _ (id : ℕ) where
    pub entry_found : entry_of f lead b id < entry_count b → entry_id f lead b (entry_of f lead b id) ≡ id
    unfolding entry_of
    entry_found l = place_found (entry_id f lead b) id (entry_count b) l

    -- an entry for the id is in its row
    pub entry_is : (i : ℕ) → Rising (entry_id f lead b) (entry_count b) → i < entry_count b → entry_id f lead b i ≡ id → entry_of f lead b id ≡ i
    unfolding entry_of
    entry_is i r l e = place_is (entry_id f lead b) id (entry_count b) i r l e
