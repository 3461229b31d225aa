-- The refusals of joining, in their order and with their places: two sound networks are refused exactly as `JoinRefused` says. Each row of the
-- table is read as what it says of the two, where no row above it applies.
use mathlib.Core.Path.{◌≡◌, refl, sym, subst}
use mathlib.Core.Bool.{cond}
use mathlib.Core.Logic.{◌↔◌, ⊎_elim}
use mathlib.Core.Option.{none, some}
use Prim.Native.Nat.{ℕ}
use lib.ListN.{length}
use borrow.Author.Tests.{lt-ltb, le-ltb}
use Rattle.lists.specs.All.{all_alike}
use Rattle.lists.specs.Answer.{refused}
use Rattle.lists.proofs.Answer.{refused_given, row_refused}
use Rattle.networks.specs.Algebra.{Algebra, Telling}
use Rattle.networks.specs.Network.{Own, NetworkOver, own_boxes, owns}
use Rattle.networks.specs.Sound.{Bounds, Sound}
use Rattle.networks.specs.Lowest.{lowest}
use Rattle.networks.specs.Join.{joining, lower_of, over_bound, unmatched, join}
use Rattle.networks.specs.Joint.{OwnedTwice, EitherUnmatched, JoinRefused, owned_twice, assumption, tables, too_many_boxes, too_many_wires}
use Rattle.networks.proofs.Laws.JoinRows.{Finds, finds_some, finds_none, finds_twice, finds_either}
use Rattle.networks.proofs.Laws.JoinRows.{table_none, none_table, table_some, some_table, over_none, over_some}

module _ (𝓐 : Algebra) (telling : Telling 𝓐) (B : Bounds) (N M : NetworkOver 𝓐) (sound : Sound B N) (sound' : Sound B M) where
  open 𝓐 use {Route, Demand}
  open telling use {alike, alike_true, alike_self}

  row_21 : Finds (OwnedTwice 𝓐 N M) (lowest (λ (b : Own Route Demand). owns M b.id) (own_boxes N))
  row_21 = finds_twice 𝓐 N M sound.boxes_rise

  row_22 : Finds (EitherUnmatched 𝓐 N M) (lower_of (unmatched 𝓐 N M) (unmatched 𝓐 M N))
  row_22 = finds_either 𝓐 N M sound.boxes_rise sound'.boxes_rise

  refusal_says : (n place : ℕ) → join 𝓐 telling B N M ≡ refused n place → JoinRefused 𝓐 B N M n place
  unfolding join
  refusal_says n place e =
      ⊎_elim (λ h. at 21 h.0 place refl (owned_twice place (row_21.found place h.1)))
      (λ h. let once = row_21.missed h.0 in
      ⊎_elim (λ k. at 22 k.0 place refl (assumption place once (row_22.found place k.1)))
      (λ k. let matches = row_22.missed k.0 in
      ⊎_elim (λ l. let f = table_some alike alike_true alike_self N.policies M.policies place l.1 in
      at 23 l.0 0 f.1 (tables once matches f.0))
      (λ l. let table = table_none alike alike_true alike_self N.policies M.policies l.0 in
      ⊎_elim (λ m. let f = over_some B.boxes (length (joining N M).boxes) place m.1 in
      at 24 m.0 (length (joining N M).boxes) f.1 (too_many_boxes once matches table f.0))
      (λ m. let within = over_none B.boxes (length (joining N M).boxes) m.0 in
      ⊎_elim (λ o. let f = over_some B.wires (length (joining N M).wires) place o.1 in
      at 24 o.0 (length (joining N M).wires) f.1 (too_many_wires once matches table within f.0))
      (λ o. absurd (refused_given (sym o.1)))
      (row_refused 24 (over_bound B.wires (length (joining N M).wires)) _ n place m.1))
      (row_refused 24 (over_bound B.boxes (length (joining N M).boxes)) _ n place l.1))
      (row_refused 23 (cond (all_alike alike N.policies M.policies) none (some 0)) _ n place k.1))
      (row_refused 22 (lower_of (unmatched 𝓐 N M) (unmatched 𝓐 M N)) _ n place h.1))
      (row_refused 21 (lowest (λ (b : Own Route Demand). owns M b.id) (own_boxes N)) _ n place e)
    where
      at : (k : ℕ) → n ≡ k → (i : ℕ) → i ≡ place → JoinRefused 𝓐 B N M k i → JoinRefused 𝓐 B N M n place
      at k q i p h = subst (λ (m : ℕ). JoinRefused 𝓐 B N M m place) (sym q) (subst (λ (j : ℕ). JoinRefused 𝓐 B N M k j) p h)

  says_refusal : (n place : ℕ) → JoinRefused 𝓐 B N M n place → join 𝓐 telling B N M ≡ refused n place
  unfolding join
  says_refusal n place (owned_twice i h) = rw (finds_some _ _ row_21 i h) refl
  says_refusal n place (assumption i once h) = rw (finds_none _ _ row_21 once, finds_some _ _ row_22 i h) refl
  says_refusal n place (tables once matches h) =
      rw (finds_none _ _ row_21 once, finds_none _ _ row_22 matches, some_table alike alike_true alike_self N.policies M.policies h) refl
  says_refusal n place (too_many_boxes once matches table h) =
      rw (
        finds_none _ _ row_21 once,
        finds_none _ _ row_22 matches,
        none_table alike alike_true alike_self N.policies M.policies table,
        lt-ltb B.boxes (length (joining N M).boxes) h,
      ) refl
  says_refusal n place (too_many_wires once matches table h k) =
      rw (
        finds_none _ _ row_21 once,
        finds_none _ _ row_22 matches,
        none_table alike alike_true alike_self N.policies M.policies table,
        le-ltb B.boxes (length (joining N M).boxes) h,
        lt-ltb B.wires (length (joining N M).wires) k,
      ) refl

  pub join_refused : (n place : ℕ) → (join 𝓐 telling B N M ≡ refused n place) ↔ JoinRefused 𝓐 B N M n place
  join_refused n place = (refusal_says n place, says_refusal n place)
