-- What came of an operation.
use Rattle.std.specs.Prelude.{◌≡◌, ℕ, Option, Some, None}
use Rattle.nfs_core.specs.Server.{AreAlike, Enters, Server}
use Rattle.nfs_core.specs.declared.entered.Entered.{Entered}
use Rattle.nfs_state.specs.Entries.{entry_of, resource}
use Rattle.nfs_state.specs.LiveChange.{live_change_of}
use Rattle.nfs_state.specs.declared.entry.Entry.{Entry}
use Rattle.nfs_state.specs.declared.request.Request.{Request}
use Rattle.nfs_xdr.specs.declared.op_result.OpResult.{OpResult}

-- The server `old` becomes `new` by an entry that may come next. What is told of it is its number in the journal, and
-- what its effect does to who is live.
abbrev pub IsEntered : Server → Server → Entry → Entered → Type 0
IsEntered old new entry entered =
    (enters : Enters old new entry entered.number)
    × (entered.live ≡ live_change_of enters.2.effect.change)

-- One call of `answer`: as `Applies` says of `apply`, and what is told is right.
abbrev pub Answers : Server → Server → Request → OpResult → Option Entered → Type 0
Answers old new request answer None = (answer ≡ resource request.op) × AreAlike old new
Answers old new request answer (Some entered) = IsEntered old new (entry_of request answer) entered

-- the number of the entry that an operation made, if it made one
abbrev pub number_entered : Option Entered → Option ℕ
number_entered None = None
number_entered (Some entered) = Some entered.number
