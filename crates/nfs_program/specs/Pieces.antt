-- Values that are written to a sink one after the other, many together, by a buffer that has room for each of them.
use Rattle.std.specs.Prelude.{◌≡◌, ℕ, ◌+◌, ◌≤◌, List, ◌++◌, length, Result, Ok, Err}
use Rattle.std.specs.List.{All}
use Rattle.nfs_journal.specs.File.{opening}
use Rattle.nfs_journal.specs.Journals.{file_of}
use Rattle.nfs_journal.specs.declared.file.File.{File}
use Rattle.nfs_server.specs.Device.{Device, IsCut, IsWritten}
use Rattle.nfs_server.specs.declared.device.DeviceFailed.{DeviceFailed}
use Rattle.nfs_program.specs.declared.pieces.TheConstants.{WAIT_LIMIT}
use Rattle.nfs_state.specs.EntryForm.{entry}
use Rattle.nfs_state.specs.State.{History}
use Rattle.nfs_tree.specs.NodeForm.{node}
use Rattle.xdr.specs.Form.{Form, u32}
use Rattle.xdr.specs.Layout.{NO_LIMIT}

-- A buffer of this capacity has room for the value's bytes behind those that wait there.
abbrev pub HasRoom : {A : Type 0} → Form A → ℕ → A → Type 0
HasRoom form capacity value = WAIT_LIMIT + length (form.encoding value) ≤ capacity

-- A buffer of this capacity has room for the count of these values, and for the bytes of each, after the bytes that
-- wait.
abbrev pub HaveRoom : {A : Type 0} → Form A → ℕ → List A → Type 0
HaveRoom form capacity values =
    HasRoom u32 capacity (length values) × All (HasRoom form capacity) values

-- There is room for each part of this file.
abbrev pub HasRoomForFile : ℕ → File → Type 0
HasRoomForFile capacity f =
    HasRoom opening capacity f.opening × HaveRoom node capacity f.nodes
    × HaveRoom entry capacity f.entries

-- There is room for each part of this journal's file.
abbrev pub HasRoomForFileOf : ℕ → History → Type 0
HasRoomForFileOf capacity journal = HasRoomForFile capacity (file_of journal)

-- The value fits its form, and there is room for it.
abbrev pub HasPlace : {A : Type 0} → Form A → ℕ → A → Type 0
HasPlace form capacity value = form.Fits value × HasRoom form capacity value

-- The values of a list and their count fit their forms, and there is room for each of them.
abbrev pub HavePlace : {A : Type 0} → Form A → ℕ → List A → Type 0
HavePlace form capacity values =
    (length values ≤ NO_LIMIT) × HasPlace u32 capacity (length values)
    × All (HasPlace form capacity) values

-- A sink, and the bytes that wait to be written to it.
pub record Waiting (W : Type 0) : Type 0 where
  pub sink : W
  pub bytes : List ℕ

abbrev pub waiting : {W : Type 0} → W → List ℕ → Waiting W
waiting sink bytes = record { sink = sink; bytes = bytes }

-- What became of bytes that were put behind those that waited: the first of all of these were written, and the others
-- wait; or a write failed before all of them were written.
abbrev pub ArePut : {W : Type 0} → Device W → Waiting W → List ℕ → Result (Unit {0}) DeviceFailed
    → Waiting W → Type 0
ArePut device old bytes (Ok done) new =
    (front : List ℕ) × (old.bytes ++ bytes ≡ front ++ new.bytes)
    × IsWritten device old.sink front new.sink
ArePut device old bytes (Err error) new = IsCut device old.sink (old.bytes ++ bytes) new.sink
