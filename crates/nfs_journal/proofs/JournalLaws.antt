-- Files have their journals, and no journal has calls that its profile refuses.
use Rattle.std.proofs.Common.{◌≡◌, ℕ, false, refl, ap, ◌∙◌}
use Rattle.std.specs.Prelude.{◌&&◌}
use Rattle.nfs_journal.specs.JournalLaws.{AreInNone, HaveTheirJournals, IsInNone}
use Rattle.nfs_journal.specs.Journals.{history_of, opening_of, third_of}
use Rattle.nfs_state.specs.Entries.{is_filehandle}
use Rattle.nfs_state.specs.State.{History}
use Rattle.nfs_state.specs.declared.entry.Call.{Call}
use Rattle.nfs_tree.specs.Profiles.{has_entry}
use Rattle.nfs_tree.specs.declared.profile.Profile.{Profile}
use Rattle.nfs_tree.specs.declared.profile.Profile.TheVariants.{Plain, Clients}
use Rattle.nfs_xdr.specs.declared.op.Op.{Op}
use Rattle.nfs_xdr.specs.declared.op.Op.TheVariants as ops

-- the file of this profile, with what this journal has, is that of the journal with this profile
of_profile : (profile : Profile) (h : History)
    → history_of (record {
      opening = opening_of profile (third_of h);
      nodes = h.nodes;
      entries = h.entries;
    })
    ≡ record h { policy = record h.policy { profile = profile } }
of_profile Plain h = refl
of_profile Clients h = refl

pub have_their_journals : HaveTheirJournals
have_their_journals h = of_profile h.policy.profile h

-- an operation without an entry under this profile
without_entry : (profile : Profile) (op : Op) → has_entry profile op ≡ false → IsInNone profile op
without_entry profile op none nodes call is =
    ap (λ b. b && is_filehandle nodes call.request.filehandle) (ap (has_entry profile) is ∙ none)

commit_in_none : (profile : Profile) → (args : _) → IsInNone profile (ops.Commit args)
commit_in_none Plain args = without_entry Plain (ops.Commit args) refl
commit_in_none Clients args = without_entry Clients (ops.Commit args) refl

pub are_in_none : AreInNone
are_in_none = (
  λ args. without_entry Plain (ops.Readdir args) refl,
  λ args. without_entry Plain (ops.Setattr args) refl,
  commit_in_none,
)
