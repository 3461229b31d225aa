-- The entries of sheets and of route lists as kinds of entry.
use mathlib.Core.Path.{◌≡◌, refl}
use mathlib.Core.Bool.{◌&&◌}
use mathlib.Core.List.{List}
use Prim.Native.Nat.{ℕ, ◌+◌, ◌≤◌}
use native.Mathlib.Omega.{arith}
use lib.Dec.{leb}
use lib.ListN.{get_or}
use borrow.Author.Tests.{leb-true, le-leb}
use Rattle.lists.proofs.Test.{and_l, and_r}
use Rattle.routes.specs.Form.{route_formed}
use Rattle.routes.specs.declared.Route.{Route}
use Rattle.networks.specs.Sheets.{SheetEntry, ListEntry}
use Rattle.layout.specs.Form.{Usable, entry_width, list_lead, sheet_lead}
use Rattle.entries.specs.Entries.{entry_ok, entry_formed, fragment_formed}
use Rattle.layout.specs.declared.Form.{Form}
use Rattle.reading.specs.Parts.{sheet_entry_at, list_entry_at}
use Rattle.reading.proofs.RowCodecs.{sheet_entry_lem, list_entry_lem}
use Rattle.reading.proofs.EntryBytes.{Kind}

module _ (f : Form) (usable : Usable f) where
  -- an entry of a sheet: its fragment number is at most 63
  unfoldable pub sheet_kind : Kind (SheetEntry Route) f sheet_lead
  unfolding entry_width sheet_entry_at fragment_formed entry_formed entry_ok
  sheet_kind = record {
    codec = sheet_entry_lem f.route usable.wide;
    id = λ (e : SheetEntry Route). e.id;
    width = refl;
    test = λ (b : List ℕ) (o : ℕ). leb (get_or b (o + 2) 0) 63 && route_formed f.route b (o + 3);
    Within = λ (e : SheetEntry Route). e.fragment ≤ 63;
    id_at_lem = λ b o. refl;
    tested = λ b i. refl;
    formed = λ b o z h.
        let three : o + 3 ≡ o + 2 + 1 = omega arith in
        let t = leb (get_or b (o + 2) 0) 63 in
        let r = route_formed f.route b (o + 3) in
        ((z, rw three at (and_r t r h)), leb-true _ _ (and_l t r h));
    passes = λ b o h w. let three : o + 3 ≡ o + 2 + 1 = omega arith in rw (le-leb (get_or b (o + 2) 0) 63 w, three, h.1);
  }

  -- an entry of a route list
  unfoldable pub list_kind : Kind (ListEntry Route) f list_lead
  unfolding entry_width list_entry_at fragment_formed entry_formed entry_ok
  list_kind = record {
    codec = list_entry_lem f.route usable.wide;
    id = λ (e : ListEntry Route). e.id;
    width = refl;
    test = λ (b : List ℕ) (o : ℕ). route_formed f.route b (o + 2);
    Within = λ (e : ListEntry Route). Unit {0};
    id_at_lem = λ b o. refl;
    tested = λ b i. refl;
    formed = λ b o z h. ((z, h), tt);
    passes = λ b o h w. h.1;
  }
