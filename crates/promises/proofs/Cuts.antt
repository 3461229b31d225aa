-- What a cut leaves in a buffer, by the fragment; and what a sheet that cuts a network tells of the two records.
--     into_laid, into_given, into_fragment     the record at the buffer's start is the fragment's
--     record_said                      what a fragment's record says
--     twice_said                       one cut upon another's record is one cut upon another's fragment
--     number_entered, there_asked, given_asked      fragment numbers end at 63; a fragment that is given was asked for by a byte
--     cuts_network, cuts_sheet, cuts_said    neither record is refused, and the sheet cuts what the network says
--     of_part, parts_low               what is made of a fragment's record is made of the fragment; its number is below 64
--     said_passes, passes_said         a list passes on bytes where it passes on what they say
use mathlib.Core.Path.{◌≡◌, refl, sym, ap, ◌∙◌, subst}
use mathlib.Core.Bool.{Bool, true, false, false≢true}
use mathlib.Core.List.{List, [], ◌∷◌}
use mathlib.Core.Logic.{◌⊎◌, ⊎_elim}
use mathlib.Core.Option.{Option, none, some, map, get_or}
use Prim.Native.Nat.{ℕ, ◌≤◌, ◌<◌}
use native.Mathlib.Omega.{arith}
use lib.Dec.{leb}
use lib.ListN.{length}
use borrow.Author.Tests.{ne_eqb, leb-true}
use Rattle.lists.specs.All.{All, any}
use Rattle.lists.proofs.All.{all_map, all_of, false_any}
use Rattle.lists.specs.Bytes.{Bytes}
use Rattle.lists.proofs.Sorted.{find_all}
use Rattle.lists.specs.Test.{first_applying}
use Rattle.lists.proofs.Test.{le_or_lt}
use Rattle.routes.specs.declared.Demand.{Demand}
use Rattle.routes.specs.declared.Route.{Route}
use Rattle.lists.specs.Answer.{Answer, given, refused, and_then, is_some, row}
use Rattle.networks.specs.Lowest.{unentered}
use Rattle.networks.specs.Cut.{numbered, cut, cut_twice, Cuts}
use Rattle.networks.specs.Judge.{pass, judge, Passes as Passing}
use Rattle.networks.specs.Network.{Own, own_boxes}
use Rattle.networks.specs.Sheets.{SheetEntry, sheet_entry, number, note}
use Rattle.networks.specs.Sound.{Sound}
use Rattle.lists.proofs.Answer.{refused_number, first_meets}
use Rattle.networks.proofs.Laws.Cutting.{cut_given, cuts_fits}
use Rattle.networks.proofs.Refusals.{cut_refused}
use Rattle.entries.specs.Entries.{entries_table, entries_refusal, sheet_refusal, WellFormed}
use Rattle.layout.specs.Form.{list_lead, sheet_lead, form_of}
use Rattle.records.specs.Network.{network_table, network_refusal, SoundRecord}
use Rattle.reading.specs.Whole.{HouseNetwork, HouseSheet, bounds, write_network, network_of, sheet_of, list_of, read_network}
use Rattle.reading.proofs.Bridges.{read_network_lem, read_sheet_lem}
use Rattle.judging.proofs.OnBytes.{judge_said, judged, pass_judged}
use Rattle.cutting.specs.Cutting.{cut_network, cut_records, cut_buffer}
use Rattle.cutting.proofs.OnBytes.{cut_said_lem, record_largest, record_fine, record_read, record_small, record_form}
use Rattle.promises.specs.Calls.{house1, Passes, cut_into, Roomy, SheetCuts}
use Rattle.promises.specs.Demand3 as demand
use Rattle.promises.proofs.Left.{written, left, left_laid, left_given, left_roomy}
use Rattle.layout.specs.declared.Form.{Form}
use Rattle.records.proofs.Checked.{given_network, given_entries}

module _ (network sheet : List ℕ) (k : ℕ) (out : List ℕ) where
  abbrev f : Form
  f = form_of network

  into_left : cut_into network sheet k out ≡ left f (cut_network network sheet k) out
  unfolding cut_into cut_records cut_buffer
  into_left = refl

  -- a fragment that there is room for leaves its record
  pub into_laid : (G : HouseNetwork) → cut_network network sheet k ≡ given G → length (write_network f G) ≤ length out
      → cut_into network sheet k out ≡ given (write_network f G)
  into_laid G q room = into_left ∙ left_laid f (cut_network network sheet k) out G q room

  -- a record that was left is a fragment's
  pub into_given : (F : List ℕ) → cut_into network sheet k out ≡ given F → (G : HouseNetwork) × (cut_network network sheet k ≡ given G) × (F ≡ write_network f G)
  into_given F e = left_given f (cut_network network sheet k) out F (sym into_left ∙ e)

  pub into_fragment : Bytes network → Roomy (form_of network) out → cut_into network sheet k out ≡ and_then (cut_network network sheet k) (written f)
  into_fragment small roomy = into_left
      ∙ left_roomy f (cut_network network sheet k) out (λ G q. let short = record_largest network sheet k small G q in omega arith)

pub record_said : (network sheet : List ℕ) (k : ℕ) → Bytes network → Bytes sheet → (G : HouseNetwork) → cut_network network sheet k ≡ given G
    → network_of (write_network (form_of network) G) ≡ G
record_said network sheet k small sheet_small G e =
    ap (λ (f : Form). read_network f (write_network (form_of network) G)) (record_form network sheet k small G e sheet_small)
    ∙ record_read network sheet k small G e sheet_small

module _ (network X Y : List ℕ) (x y : ℕ) (o₁ o₂ : List ℕ) (small : Bytes network) (first_small : Bytes X)
    (roomy₁ : Roomy (form_of network) o₁) (roomy₂ : Roomy (form_of network) o₂)
    (n : SoundRecord network) (first_formed : WellFormed sheet_lead X) (second_formed : WellFormed sheet_lead Y) where
  abbrev g : Form
  g = form_of network

  pub twice_said : demand.cut_twice network X x o₁ Y y o₂ ≡ and_then (cut_twice house1 (network_of network) (sheet_of X) x (sheet_of Y) y) (written g)
  twice_said =
      ap (λ (a : Answer (List ℕ)). and_then a (λ (F : List ℕ). cut_into F Y y o₂)) (into_fragment network X x o₁ small roomy₁)
      ∙ go (cut_network network X x) refl
      ∙ ap (λ (a : Answer HouseNetwork). and_then (and_then a (λ (G : HouseNetwork). cut house1 G (sheet_of Y) y)) (written g)) (cut_said_lem network X x n first_formed)
    where
      go : (a : Answer HouseNetwork) → cut_network network X x ≡ a
          → and_then (and_then a (written g)) (λ (F : List ℕ). cut_into F Y y o₂) ≡ and_then (and_then a (λ (G : HouseNetwork). cut house1 G (sheet_of Y) y)) (written g)
      go (given G) q =
          let W = write_network g G in
          let form : form_of W ≡ g = record_form network X x small G q first_small in
          into_fragment W Y y o₂ (record_small network X x small G q first_small) (rw form roomy₂)
          ∙ ap (λ (h : Form). and_then (cut_network W Y y) (written h)) form
          ∙ ap (λ (a : Answer HouseNetwork). and_then a (written g))
          (cut_said_lem W Y y (record_fine network X x small G q first_small) second_formed
          ∙ ap (λ (H : HouseNetwork). cut house1 H (sheet_of Y) y) (record_said network X x small first_small G q))
      go (refused m p) q = refl

-- no number of a table's rows is over 17
abbrev low : {A : Type 0} → Answer A → Bool
low (given x) = true
low (refused number place) = leb number 17

neither : (m : ℕ) → leb m 17 ≡ true → (m ≡ 18) ⊎ (m ≡ 20) → ⊥
neither m e h = let l = leb-true m 17 e in ⊎_elim (λ e. omega arith) (λ e. omega arith) h

-- a well-formed sheet has no number over 64, which stands for no entry
pub number_small : (S : HouseSheet) → All (λ (e : SheetEntry Route). e.fragment ≤ 63) S → (i : ℕ) → number S i ≤ 64
unfolding number
number_small S h i = go (sheet_entry S i) refl
  where
    go : (o : Option (SheetEntry Route)) → sheet_entry S i ≡ o → get_or (map (λ (e : SheetEntry Route). e.fragment) o) 64 ≤ 64
    go none q = omega arith
    go (some e) q = let l = find_all (λ (x : SheetEntry Route). x.id) (λ (x : SheetEntry Route). x.fragment ≤ 63) i S e h q in omega arith

-- and a box with an entry has one up to 63
pub number_entered : (S : HouseSheet) → All (λ (e : SheetEntry Route). e.fragment ≤ 63) S → (i : ℕ) → is_some (note S i) ≡ true → number S i < 64
unfolding number note
number_entered S h i = go (sheet_entry S i) refl
  where
    go : (o : Option (SheetEntry Route)) → sheet_entry S i ≡ o → is_some (map (λ (e : SheetEntry Route). e.note) o) ≡ true
        → get_or (map (λ (e : SheetEntry Route). e.fragment) o) 64 < 64
    go none q t = absurd (false≢true t)
    go (some e) q t = let l = find_all (λ (x : SheetEntry Route). x.id) (λ (x : SheetEntry Route). x.fragment ≤ 63) i S e h q in omega arith

module _ (network sheet : List ℕ) (sheet_small : Bytes sheet) (s : WellFormed sheet_lead sheet) (k : ℕ) where
  abbrev N : HouseNetwork
  N = network_of network

  abbrev S : HouseSheet
  S = sheet_of sheet

  none_asked : 256 ≤ k → any (numbered N S k) (own_boxes N) ≡ false
  none_asked l = false_any (numbered N S k) (own_boxes N)
      (all_of (own_boxes N) (λ b. ne_eqb (number S b.id) k (λ e. let m = number_small S (read_sheet_lem sheet sheet_small s).0.fragments b.id in omega arith)))

  -- a number that is no byte is refused with 17 or 18
  over_refused : 256 ≤ k → cut house1 N S k ≡ first_applying (row 17 (unentered N (note S)) ∷ []) (refused 18 k)
  unfolding cut
  over_refused l = rw (none_asked l) refl

  -- so the number of an own box is a byte
  pub there_asked : any (numbered N S k) (own_boxes N) ≡ true → k < 256
  there_asked t = ⊎_elim (λ l. absurd (false≢true (sym (none_asked l) ∙ t))) (λ l. l) (le_or_lt 256 k)

  pub given_asked : (F : HouseNetwork) → cut house1 N S k ≡ given F → k < 256
  given_asked F e = there_asked (cut_given house1 N S k F e).1

-- 17 does not depend on the fragment asked
unentered_refused : (N : HouseNetwork) (S : HouseSheet) (k i : ℕ) → unentered N (note S) ≡ some i → cut house1 N S k ≡ refused 17 i
unfolding cut
unentered_refused N S k i q = rw q refl

module _ (network sheet : List ℕ) (cuts : SheetCuts network sheet) where
  pub cuts_network : SoundRecord network
  unfolding cut_records cut_network network_refusal
  cuts_network = go (network_refusal network) refl
      (first_meets low (network_table (form_of network) network) (given (form_of network)) refl refl)
    where
      go : (a : Answer Form) → network_refusal network ≡ a → low a ≡ true → SoundRecord network
      go (given f) q l = given_network network f q
      go (refused number place) q l = absurd (neither number l (cuts 0 0 number place (omega arith) (rw q refl)))

  pub cuts_sheet : WellFormed sheet_lead sheet
  unfolding cut_records cut_network entries_refusal
  cuts_sheet = go (sheet_refusal sheet) refl
      (first_meets low (entries_table (form_of sheet) sheet_lead sheet) (given (form_of sheet)) refl refl)
    where
      go : (a : Answer Form) → sheet_refusal sheet ≡ a → low a ≡ true → WellFormed sheet_lead sheet
      go (given f) q l = given_entries sheet_lead sheet f q
      go (refused number place) q l = absurd (neither number l (cuts 0 0 number place (omega arith) (rw (cuts_network, q) refl)))

  module _ (small : Bytes network) where
    pub cuts_sound : Sound (bounds (form_of network)) (network_of network)
    cuts_sound = (read_network_lem network small cuts_network).0

    -- a refusal of what the records say is 18 or 20
    said_refused : (k n place : ℕ) → k < 256 → cut house1 (network_of network) (sheet_of sheet) k ≡ refused n place → (n ≡ 18) ⊎ (n ≡ 20)
    unfolding cut_records
    said_refused k n place l e =
        let c : cut_network network sheet k ≡ refused n place = cut_said_lem network sheet k cuts_network cuts_sheet ∙ e in
        cuts k 0 n place l (rw c refl)

    pub cuts_said : Bytes sheet → Cuts house1 (network_of network) (sheet_of sheet)
    cuts_said sheet_small k n place e = ⊎_elim over (λ l. ⊎_elim (λ h. h) (λ h. absurd (late h)) (said_refused k n place l e)) (le_or_lt 256 k)
      where
        late : n ≡ 20 → ⊥
        late h = ⊎_elim (λ r. let m = r.0 in omega arith) (λ r. ⊎_elim (λ t. let m = t.0 in omega arith) (λ t. let m = t.0 in omega arith) r)
            (cut_refused house1 (bounds (form_of network)) (network_of network) cuts_sound (sheet_of sheet) k n place e)

        over : 256 ≤ k → n ≡ 18
        over l = go (unentered (network_of network) (note (sheet_of sheet))) refl (sym (over_refused network sheet sheet_small cuts_sheet k l) ∙ e)
          where
            go : (o : Option ℕ) → unentered (network_of network) (note (sheet_of sheet)) ≡ o → first_applying (row {A = HouseNetwork} 17 o ∷ []) (refused 18 k) ≡ refused n place → n ≡ 18
            go none q z = sym (refused_number z)
            go (some i) q z = absurd (neither 17 refl (said_refused 0 17 i (omega arith) (unentered_refused (network_of network) (sheet_of sheet) 0 i q)))

module _ (network sheet : List ℕ) (small : Bytes network) (cuts : SheetCuts network sheet) where
  -- what is made of a fragment's record is made of the fragment
  pub of_part : {A : Type 0} (record_of : List ℕ → Answer A) (said : HouseNetwork → Answer A) (k : ℕ) (out : List ℕ) → Roomy (form_of network) out
      → ((G : HouseNetwork) → cut_network network sheet k ≡ given G → record_of (write_network (form_of network) G) ≡ said G)
      → and_then (cut_into network sheet k out) record_of ≡ and_then (cut house1 (network_of network) (sheet_of sheet) k) said
  of_part {A} record_of said k out roomy same =
      ap (λ (a : Answer (List ℕ)). and_then a record_of) (into_fragment network sheet k out small roomy)
      ∙ go (cut_network network sheet k) refl
      ∙ ap (λ (a : Answer HouseNetwork). and_then a said) (cut_said_lem network sheet k (cuts_network network sheet cuts) (cuts_sheet network sheet cuts))
    where
      go : (a : Answer HouseNetwork) → cut_network network sheet k ≡ a → and_then (and_then a (written (form_of network))) record_of ≡ and_then a said
      go (given G) q = same G q
      go (refused m p) q = refl

  -- every own box has a number below 64
  pub parts_low : Bytes sheet → All (λ (b : Own Route Demand). number (sheet_of sheet) b.id < 64) (own_boxes (network_of network))
  parts_low sheet_small = all_map (own_boxes (network_of network))
      (λ b t. number_entered (sheet_of sheet) (read_sheet_lem sheet sheet_small (cuts_sheet network sheet cuts)).0.fragments b.id t)
      ((cuts_fits house1 (network_of network) (sheet_of sheet) (bounds (form_of network)) (cuts_sound network sheet cuts small)).0
      (cuts_said network sheet cuts small sheet_small)).entered

-- a list passes on bytes where it passes on what they say
module _ (network list : List ℕ) where
  pub said_passes : SoundRecord network → WellFormed list_lead list → Passing house1 (network_of network) (list_of list) → Passes network list
  said_passes n l h = (length (own_boxes (network_of network)), judge_said network list n l ∙ h)

  pub passes_said : Bytes network → Passes network list
      → SoundRecord network × WellFormed list_lead list × Passing house1 (network_of network) (list_of list)
  passes_said small p =
      let v = judged network list (pass p.0) p.1 in
      (v.0, v.1, subst (λ (count : ℕ). judge house1 (network_of network) (list_of list) ≡ given (pass count)) (pass_judged network list small p.0 p.1) v.2)
