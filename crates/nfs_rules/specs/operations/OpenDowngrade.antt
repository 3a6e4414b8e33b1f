-- OPEN_DOWNGRADE (RFC 7530, section 16.19): gives up a part of an open's access, and of what it denies to others.
use Rattle.std.specs.Prelude.{◌≡◌, ◌⊎◌, Option, Some, None, Result, Ok, Err}
use Rattle.nfs_state.specs.declared.change.Change.TheVariants.{Nothing, Downgrades}
use Rattle.nfs_rules.specs.declared.ruling.Ruling.{Ruling}
use Rattle.nfs_rules.specs.Sequences.{Own}
use Rattle.nfs_rules.specs.Refusing.{◌>>=◌}
use Rattle.nfs_rules.specs.Stateids.{as_open, confirmed_open, verdict}
use Rattle.nfs_state.specs.State.{State, History}
use Rattle.nfs_share.specs.declared.share.Share.{Share}
use Rattle.nfs_share.specs.AllOpens.{OpenAt}
use Rattle.nfs_share.specs.Opens.{next_stateid_of}
use Rattle.nfs_share.specs.Share.{share_of_numbers}
use Rattle.nfs_share.specs.Shares.{IsLawfulDowngrade}
use Rattle.nfs_forms.specs.declared.answer.Answer.TheVariants.{Done, Refused}
use Rattle.nfs_xdr.specs.declared.op_result.OpResult.TheVariants as results
use Rattle.nfs_operations.specs.declared.open_downgrade.OpenDowngrade.{OpenDowngrade}
use Rattle.nfs_forms.specs.declared.status.Refusal.{Refusal}
use Rattle.nfs_forms.specs.declared.status.Refusal.TheVariants.{Inval}

abbrev pub refusal_of : Refusal → Ruling
refusal_of refusal = record { answer = results.OpenDowngrade (Refused refusal); change = Nothing }

-- the shares that the new one contains are kept, and the open's stateid comes back with the next seqid
abbrev pub downgrade : OpenAt → Share → Ruling
downgrade at share = record {
  answer = results.OpenDowngrade (Done (next_stateid_of at.state));
  change = Downgrades at.node at.state.number share;
}

-- NFS4ERR_INVAL for a number that is no access or no denial, and for a share that isn't the union of some of the open's
-- own, of one at least
abbrev pub IsDowngrade : OpenAt → Option Share → Ruling → Type 0
IsDowngrade at None ruling = ruling ≡ refusal_of Inval
IsDowngrade at (Some share) ruling =
    (IsLawfulDowngrade at.state.shares share × (ruling ≡ downgrade at share))
    ⊎ ((IsLawfulDowngrade at.state.shares share → ⊥) × (ruling ≡ refusal_of Inval))

abbrev pub IsFound : Result OpenAt Refusal → OpenDowngrade → Ruling → Type 0
IsFound (Err refusal) args ruling = ruling ≡ refusal_of refusal
IsFound (Ok at) args ruling = IsDowngrade at (share_of_numbers args.access args.deny) ruling

-- the rule of OPEN_DOWNGRADE under the current filehandle: the stateid has to name an open of a confirmed owner there
abbrev pub own : History → State → OpenDowngrade → Own
own journal state args request node passage None = ⊥
own journal state args request node passage (Some ruling) =
    IsFound (verdict (confirmed_open node) journal.epoch state args.stateid >>= as_open) args ruling
