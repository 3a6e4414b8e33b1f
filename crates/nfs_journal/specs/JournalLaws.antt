-- What follows for every file of a journal, and for the calls that no journal has.
use Rattle.std.specs.Prelude.{◌≡◌, ℕ, false}
use Rattle.nfs_journal.specs.Journals.{file_of, history_of, is_entry}
use Rattle.nfs_operations.specs.declared.commit.Commit.{Commit}
use Rattle.nfs_operations.specs.declared.readdir.Readdir.{Readdir}
use Rattle.nfs_operations.specs.declared.setattr.Setattr.{Setattr}
use Rattle.nfs_state.specs.State.{History}
use Rattle.nfs_state.specs.declared.entry.Call.{Call}
use Rattle.nfs_state.specs.declared.entry.Entry.TheVariants as entries
use Rattle.nfs_tree.specs.declared.profile.Profile.{Profile}
use Rattle.nfs_tree.specs.declared.profile.Profile.TheVariants.{Plain}
use Rattle.nfs_xdr.specs.declared.op.Op.{Op}
use Rattle.nfs_xdr.specs.declared.op.Op.TheVariants as ops

-- the file that is written for a journal is that of this journal
abbrev pub HaveTheirJournals : Type 0
HaveTheirJournals = (h : History) → history_of (file_of h) ≡ h

-- no journal of this profile has a call of this operation
abbrev pub IsInNone : Profile → Op → Type 0
IsInNone profile op =
    (nodes : ℕ) (call : Call) → call.request.op ≡ op
    → is_entry profile nodes (entries.Call call) ≡ false

-- Under "plain" no journal has a call of READDIR or SETATTR; under either profile none has one of COMMIT.
abbrev pub AreInNone : Type 0
AreInNone =
    ((args : Readdir) → IsInNone Plain (ops.Readdir args))
    × ((args : Setattr) → IsInNone Plain (ops.Setattr args))
    × ((profile : Profile) (args : Commit) → IsInNone profile (ops.Commit args))
