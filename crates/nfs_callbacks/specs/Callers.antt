-- What contracts see of a caller.
use Rattle.std.specs.Prelude.{ℕ, None}
use Rattle.nfs_callbacks.specs.Lines.{empty, lines_of}
use Rattle.nfs_callbacks.specs.Steps.{Happens, Rules, Scene, with_line}
use Rattle.nfs_callbacks.specs.declared.caller.Caller.{Caller}
use Rattle.nfs_callbacks.specs.declared.line.Stage.TheVariants as stages

-- the scene that a caller is in
abbrev pub scene_of : {S D : Type 0} → Caller S D → Scene S D
scene_of caller = record {
  lines = lines_of caller.lines;
  hand = caller.hand;
  next_xid = caller.xid;
  source = caller.source;
  network = caller.net;
}

-- only steps lead from the old caller to the new
abbrev pub Does : {S D : Type 0} → Rules S D → Caller S D → Caller S D → Type 0
Does r old new = Happens r (scene_of old) (scene_of new)

-- no call is to be made, and the first will have the xid 1
abbrev pub idle : {S D : Type 0} → S → D → Scene S D
idle source network = record { lines = λ client. empty; hand = None; next_xid = 1; source = source; network = network }

-- the call to this client is cancelled, and its connection closed
abbrev pub stopped : {S D : Type 0} → ℕ → D → Scene S D → Scene S D
stopped client network old =
    record (with_line client (record (old.lines client) { stage = stages.Idle }) old) { network = network }
