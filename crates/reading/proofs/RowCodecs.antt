-- Wires and entries written and read back, and read and written back: their codecs.
use mathlib.Core.Path.{◌≡◌, refl}
use mathlib.Core.Bool.{true}
use mathlib.Core.List.{List}
use Prim.Native.Nat.{ℕ, ◌+◌, ◌≤◌, ◌<◌}
use native.Mathlib.Omega.{arith}
use Rattle.lists.proofs.Codec.{Codec, byte, pair, named, restated}
use Rattle.lists.specs.Bytes.{Bytes}
use Rattle.numbers.proofs.Codecs.{u16, u16_below}
use Rattle.routes.specs.Form.{route_formed}
use Rattle.routes.proofs.RouteCodec.{route, RouteFits, route_read_fits}
use Rattle.routes.specs.declared.Route.{Route}
use Rattle.networks.specs.Network.{Wire}
use Rattle.networks.specs.Sheets.{SheetEntry, ListEntry}
use Rattle.reading.specs.Parts.{wire_at, wire_bytes, sheet_entry_at, sheet_entry_bytes, list_entry_at, list_entry_bytes}

-- wires
abbrev pub WireFits : Wire → Type 0
WireFits e = (e.to < 65536) × (e.from < 65536) × (e.policy < 256)

abbrev pub wire_parts : Codec Wire
wire_parts = named (pair u16 (pair u16 byte))
    (λ (x : ℕ × (ℕ × ℕ)). record { to = x.0; from = x.1.0; policy = x.1.1 })
    (λ (e : Wire). (e.to, (e.from, e.policy)))
    WireFits
    (λ (b : List ℕ) (o : ℕ). Bytes b)
    (λ e h. (h.0, (h.1, h.2)))
    (λ e h. refl)
    (λ b o z. ((z o, z (o + 1)), ((z (o + 2), z (o + 2 + 1)), tt)))
    (λ b o z. refl)
    (λ b o e h z formed q. z)

pub wire_bytes_lem : (e : Wire) → wire_bytes e ≡ wire_parts.bytes e
unfolding wire_bytes
wire_bytes_lem e = refl

pub wire_value : (b : List ℕ) (o : ℕ) → wire_at b o ≡ wire_parts.value b o
unfolding wire_at
wire_value b o = let four : o + 4 ≡ o + 2 + 2 = omega arith in rw four

abbrev pub wire : Codec Wire
wire = restated wire_parts 5 wire_bytes wire_at refl wire_bytes_lem wire_value

pub wire_read_fits : (b : List ℕ) (o : ℕ) → Bytes b → WireFits (wire_at b o)
unfolding wire_at
wire_read_fits b o z = (u16_below b o (z o, z (o + 1)), u16_below b (o + 2) (z (o + 2), z (o + 2 + 1)), z (o + 4))

abbrev pub SheetEntryFits : SheetEntry Route → Type 0
SheetEntryFits e = (e.id < 65536) × (e.fragment < 256) × RouteFits e.note

abbrev pub ListEntryFits : ListEntry Route → Type 0
ListEntryFits e = (e.id < 65536) × RouteFits e.route

module _ (w : ℕ) (enough : 9 ≤ w) where
  -- entries of a sheet
  abbrev pub sheet_entry_parts : Codec (SheetEntry Route)
  sheet_entry_parts = named (pair u16 (pair byte (route w enough)))
      (λ (x : ℕ × (ℕ × Route)). record { id = x.0; fragment = x.1.0; note = x.1.1 })
      (λ (e : SheetEntry Route). (e.id, (e.fragment, e.note)))
      SheetEntryFits
      (λ (b : List ℕ) (o : ℕ). Bytes b × (route_formed w b (o + 2 + 1) ≡ true))
      (λ e h. (h.0, (h.1, h.2)))
      (λ e h. refl)
      (λ b o h. ((h.0 o, h.0 (o + 1)), (tt, h)))
      (λ b o h. refl)
      (λ b o e h z formed q. formed.1.1)

  pub sheet_entry_bytes_lem : (e : SheetEntry Route) → sheet_entry_bytes w e ≡ sheet_entry_parts.bytes e
  unfolding sheet_entry_bytes
  sheet_entry_bytes_lem e = refl

  pub sheet_entry_value : (b : List ℕ) (o : ℕ) → sheet_entry_at w b o ≡ sheet_entry_parts.value b o
  unfolding sheet_entry_at
  sheet_entry_value b o = let three : o + 3 ≡ o + 2 + 1 = omega arith in rw three

  abbrev pub sheet_entry_lem : Codec (SheetEntry Route)
  sheet_entry_lem = restated sheet_entry_parts (3 + w) (sheet_entry_bytes w) (sheet_entry_at w) (omega arith) sheet_entry_bytes_lem sheet_entry_value

  -- entries of a route list
  abbrev pub list_entry_parts : Codec (ListEntry Route)
  list_entry_parts = named (pair u16 (route w enough))
      (λ (x : ℕ × Route). record { id = x.0; route = x.1 })
      (λ (e : ListEntry Route). (e.id, e.route))
      ListEntryFits
      (λ (b : List ℕ) (o : ℕ). Bytes b × (route_formed w b (o + 2) ≡ true))
      (λ e h. (h.0, h.1))
      (λ e h. refl)
      (λ b o h. ((h.0 o, h.0 (o + 1)), h))
      (λ b o h. refl)
      (λ b o e h z formed q. formed.1)

  pub list_entry_bytes_lem : (e : ListEntry Route) → list_entry_bytes w e ≡ list_entry_parts.bytes e
  unfolding list_entry_bytes
  list_entry_bytes_lem e = refl

  pub list_entry_value : (b : List ℕ) (o : ℕ) → list_entry_at w b o ≡ list_entry_parts.value b o
  unfolding list_entry_at
  list_entry_value b o = refl

  abbrev pub list_entry_lem : Codec (ListEntry Route)
  list_entry_lem = restated list_entry_parts (2 + w) (list_entry_bytes w) (list_entry_at w) refl list_entry_bytes_lem list_entry_value

pub sheet_entry_read_fits : (w : ℕ) (b : List ℕ) (o : ℕ) → Bytes b → SheetEntryFits (sheet_entry_at w b o)
unfolding sheet_entry_at
sheet_entry_read_fits w b o z = (u16_below b o (z o, z (o + 1)), z (o + 2), route_read_fits w b (o + 3) z)

pub list_entry_read_fits : (w : ℕ) (b : List ℕ) (o : ℕ) → Bytes b → ListEntryFits (list_entry_at w b o)
unfolding list_entry_at
list_entry_read_fits w b o z = (u16_below b o (z o, z (o + 1)), route_read_fits w b (o + 2) z)
