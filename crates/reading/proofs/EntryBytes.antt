-- The bytes of a sheet and of a route list: both ways, once for both, over the codec of an entry and what stands before its route.
use mathlib.Core.Path.{◌≡◌, refl, sym, ap, ◌∙◌, subst}
use mathlib.Core.Bool.{Bool, true, ◌&&◌}
use mathlib.Core.List.{List, [], ◌∷◌, ◌++◌, append-nil}
use Prim.Native.Nat.{ℕ, suc, ◌+◌, ◌*◌, ◌/◌, ◌%◌, ◌≤◌, ◌<◌}
use native.Mathlib.Nat.{mul-le-mul}
use native.Mathlib.Omega.{arith}
use lib.Dec.{leb}
use lib.ListN.{length, drop, length-drop}
use lib.Seq.{take_all}
use borrow.Author.Tests.{leb-true, le-leb}
use Rattle.lists.specs.All.{All}
use Rattle.lists.proofs.All.{all_append}
use Rattle.lists.proofs.Codec.{Codec, rows_in, rows_forth, rows_small, rows_made, small_bytes}
use Rattle.lists.specs.Bytes.{Bytes}
use Rattle.lists.specs.Rising.{least}
use Rattle.lists.proofs.Rising.{least_ext}
use Rattle.lists.specs.Rows.{rows, laid_rows}
use Rattle.lists.proofs.Rows.{length_rows, length_laid_rows, all_rows, rows_all}
use Rattle.lists.specs.Sorted.{Rises}
use Rattle.lists.specs.Stride.{at}
use Rattle.lists.proofs.Table.{keys, rises_rows, rows_rise}
use Rattle.lists.proofs.Test.{and_l, and_r}
use Rattle.numbers.specs.BigEndian.{u16_at, u32_at, u16_bytes, u32_bytes}
use Rattle.layout.specs.Form.{Usable, entry_width}
use Rattle.layout.specs.Layout.{entry_count, entry_offset}
use Rattle.entries.specs.Entries.{entry_id, entry_ok, EntriesFine}
use Rattle.layout.specs.declared.Form.{Form}
use Rattle.reading.specs.Whole.{record_of}
use Rattle.reading.proofs.Joins.{u16_on, record_on}
use Rattle.layout.proofs.OneForm.{version_test}

-- a kind of entry: its codec, its id, and the test of its bytes beside that of its id
pub record Kind (A : Type 0) (f : Form) (lead : ℕ) : Type 1 where
  pub codec : Codec A
  pub id : A → ℕ
  pub width : codec.width ≡ entry_width f lead
  pub test : List ℕ → ℕ → Bool
  -- what an entry says is within its range
  pub Within : A → Type 0
  pub id_at_lem : (b : List ℕ) (o : ℕ) → id (codec.value b o) ≡ u16_at b o
  pub tested : (b : List ℕ) (i : ℕ) → entry_ok f lead b i ≡ leb (least (entry_id f lead b) i) (entry_id f lead b i) && test b (entry_offset f lead i)
  pub formed : (b : List ℕ) (o : ℕ) → Bytes b → test b o ≡ true → codec.Formed b o × Within (codec.value b o)
  pub passes : (b : List ℕ) (o : ℕ) → codec.Formed b o → Within (codec.value b o) → test b o ≡ true

module _ {A : Type 0} {f : Form} {lead : ℕ} (usable : Usable f) (few_lead : lead ≤ 3) (k : Kind A f lead) where
  abbrev pub read_entries : List ℕ → List A
  read_entries b = rows (k.codec.value b) (entry_width f lead) 7 (entry_count b)

  abbrev pub write_entries : List A → List ℕ
  write_entries xs = record_of f (u16_bytes (length xs) ++ laid_rows k.codec.bytes xs)

  -- entries that a record can hold
  pub record Formed (xs : List A) : Type 0 where
    pub few : length xs ≤ f.most
    pub rises : Rises k.id 0 xs
    pub within : All k.Within xs

  -- written and read back
  module _ (xs : List A) (fits : All k.codec.Fits xs) where
    abbrev W : List ℕ
    W = write_entries xs

    abbrev entries : List ℕ
    entries = laid_rows k.codec.bytes xs

    abbrev said : ℕ
    said = suc (suc (length entries)) + 1

    abbrev head : List ℕ
    head = said / 65536 / 256 ∷ said / 65536 % 256 ∷ said % 65536 / 256 ∷ said % 65536 % 256 ∷ f.version ∷ length xs / 256 ∷ length xs % 256 ∷ []

    written : W ≡ head ++ entries
    unfolding u32_bytes u16_bytes
    written = refl

    count : entry_count W ≡ length xs
    unfolding u16_at
    count = rw written (omega arith)

    length_entries : length entries ≡ length xs * entry_width f lead
    length_entries = length_laid_rows k.codec.width k.codec.bytes k.codec.size xs ∙ ap (◌*◌ (length xs)) k.width

    pub read_written : read_entries W ≡ xs
    read_written =
        rw (count, ← k.width)
        (rows_in k.codec xs head [] W 7 (written ∙ ap (◌++◌ head) (sym (append-nil entries))) refl fits)

    short : length xs ≤ f.most → said < 65536 * 65536
    unfolding entry_width
    short few =
        let most = usable.few in
        let narrow = usable.narrow in
        let area = mul-le-mul (bound few) wide in
        let e = length_entries in
        omega arith
      where
        bound : length xs ≤ f.most → length xs ≤ 1024
        bound h = let most = usable.few in omega arith

        wide : lead + f.route ≤ 19
        wide = let narrow = usable.narrow in omega arith

    small_written : length xs ≤ f.most → Bytes W
    small_written few = small_bytes W (subst (All (λ (x : ℕ). x < 256)) (sym written) (all_append _ head entries small_head (rows_small k.codec xs fits)))
      where
        small_head : All (λ (x : ℕ). x < 256) head
        small_head =
            let s = short few in
            let most = usable.few in
            (omega arith, (omega arith, (omega arith, (omega arith, (omega arith, (omega arith, (omega arith, tt)))))))

    said_is : u32_at W 0 ≡ said
    unfolding u32_at u16_at
    said_is = rw written (omega arith)

    entry_ok_lem : Formed xs → (i : ℕ) → i < entry_count W → entry_ok f lead W i ≡ true
    unfolding entry_id entry_offset
    entry_ok_lem h i l =
        k.tested W i
        ∙ rw (
          le-leb (least (entry_id f lead W) i) (entry_id f lead W i) (least_ext _ _ (λ j. k.id_at_lem W (at 7 (entry_width f lead) j)) i rising),
          k.passes W (at 7 (entry_width f lead) i) made inside,
        )
      where
        same : rows (k.codec.value W) (entry_width f lead) 7 (entry_count W) ≡ xs
        same = read_written

        rising : least (keys k.id (k.codec.value W) (entry_width f lead) 7) i ≤ keys k.id (k.codec.value W) (entry_width f lead) 7 i
        rising = rows_rise k.id (k.codec.value W) (entry_width f lead) 7 (entry_count W) (subst (Rises k.id 0) (sym same) h.rises) i l

        made : k.codec.Formed W (at 7 (entry_width f lead) i)
        made = subst (λ (w : ℕ). k.codec.Formed W (at 7 w i)) k.width
            (rows_made k.codec xs head [] W 7 (written ∙ ap (◌++◌ head) (sym (append-nil entries))) refl fits (small_written h.few) i (rw (← count) l))

        inside : k.Within (k.codec.value W (at 7 (entry_width f lead) i))
        inside = rows_all (k.codec.value W) (entry_width f lead) k.Within 7 (entry_count W) (subst (All k.Within) (sym same) h.within) i l

    -- none of 11 to 16 applies to what is written
    pub written_fine : Formed xs → EntriesFine f lead W
    unfolding entry_offset at
    written_fine h =
        let n = count in
        let e = length_entries in
        let s = said_is in
        let l : length W ≡ 7 + length entries = ap length written ∙ omega arith in
        let end : 7 + entry_count W * entry_width f lead ≡ length W = rw (n, l, e) refl in
        record { long = omega arith; version = version_test f W (rw written refl); few = rw n h.few; said = omega arith; whole = end; entries = entry_ok_lem h }

  -- read and written back
  module _ (b : List ℕ) (small : Bytes b) (fine : EntriesFine f lead b) where
    abbrev R : List A
    R = read_entries b

    entry_parts : (i : ℕ) → i < entry_count b
        → (least (entry_id f lead b) i ≤ entry_id f lead b i) × (k.codec.Formed b (entry_offset f lead i) × k.Within (k.codec.value b (entry_offset f lead i)))
    entry_parts i l =
        let r = leb (least (entry_id f lead b) i) (entry_id f lead b i) in
        let t = k.test b (entry_offset f lead i) in
        let h : r && t ≡ true = sym (k.tested b i) ∙ fine.entries i l in
        (leb-true _ _ (and_l r t h), k.formed b (entry_offset f lead i) small (and_r r t h))

    -- The entries that are read rise and are within their range.
    pub read_formed : Formed R
    unfolding entry_offset entry_id
    read_formed = record {
      few = rw (length_rows (k.codec.value b) (entry_width f lead) 7 (entry_count b)) fine.few;
      rises = rises_rows k.id (k.codec.value b) (entry_width f lead) 7 (entry_count b)
          (λ i l. least_ext _ _ (λ j. sym (k.id_at_lem b (at 7 (entry_width f lead) j))) i (entry_parts i l).0);
      within = all_rows (k.codec.value b) (entry_width f lead) k.Within 7 (entry_count b) (λ i l. (entry_parts i l).1.1);
    }

    entries_forth : laid_rows k.codec.bytes R ≡ drop 7 b
    unfolding entry_offset at
    entries_forth =
        let end : 7 + entry_count b * entry_width f lead ≡ length b = fine.whole in
        ap (λ (w : ℕ). laid_rows k.codec.bytes (rows (k.codec.value b) w 7 (entry_count b))) (sym k.width)
        ∙ rows_forth k.codec b 7 (entry_count b) (rw k.width (omega arith)) (λ i l. rw k.width (entry_parts i l).1.0)
        ∙ take_all (entry_count b * k.codec.width) (drop 7 b) (rw (k.width, length-drop) (omega arith))

    -- What is read from well-formed bytes is written as the same bytes.
    pub written_read : write_entries R ≡ b
    written_read =
        let long = fine.long in
        let rest : u16_bytes (length R) ++ laid_rows k.codec.bytes R ≡ drop 5 b =
        rw (length_rows (k.codec.value b) (entry_width f lead) 7 (entry_count b), entries_forth) (u16_on b small 5 (omega arith)) in
        rw rest (record_on b small f (omega arith) fine.version (fine.said ∙ fine.whole))
