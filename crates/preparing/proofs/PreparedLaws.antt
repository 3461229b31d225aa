-- What the prepared records and tables say to those who stand on them.
use mathlib.Core.Path.{◌≡◌}
use mathlib.Core.List.{List}
use Prim.Native.Nat.{ℕ, ◌+◌, ◌≤◌, ◌<◌}
use native.Mathlib.Omega.{arith}
use lib.ListN.{length, get_or}
use Rattle.layout.specs.Layout.{Room, node_count}
use Rattle.records.specs.Rows.{Filled}
use Rattle.layout.specs.declared.Form.{Form}
use Rattle.records.specs.Checked.{CheckedNetwork}
use Rattle.preparing.specs.Prepared.{Listed, stand_of, Standing, Prepared}

module _ (f : Form) (network list stands : List ℕ) (h : Standing f network list stands) where
  pub standing_listed : Listed f network list
  unfolding Standing
  standing_listed = h.0

  pub standing_at : (i : ℕ) → i < node_count network → get_or stands i 0 ≡ stand_of f network list i
  unfolding Standing
  standing_at = h.1

  pub standing_room : Room f network
  standing_room = standing_listed.checked.room

module _ (f : Form) (network list rows stands : List ℕ) (h : Prepared f network list rows stands) where
  pub prepared_standing : Standing f network list stands
  unfolding Prepared
  prepared_standing = h.0

  pub prepared_filled : Filled f network rows
  unfolding Prepared
  prepared_filled = h.1

  pub prepared_listed : Listed f network list
  prepared_listed = standing_listed f network list stands prepared_standing

  pub prepared_checked : CheckedNetwork f network
  prepared_checked = prepared_listed.checked

  pub prepared_room : Room f network
  prepared_room = prepared_checked.room

  pub prepared_counts : 5 + 2 ≤ length network
  prepared_counts = let l = prepared_room.long in omega arith

pub ruleset prepared = (prepared_standing, prepared_filled, prepared_checked, prepared_room, prepared_counts)
