-- A refusal ends the list of operations.
use Rattle.std.proofs.Common.{◌≡◌, false, Option, Some, None, refl}
use Rattle.nfs_forms.specs.declared.status.Refusal.{Refusal}
use Rattle.nfs_forms.specs.declared.status.Refusal.TheVariants as refusals
use Rattle.nfs_xdr.specs.declared.opnum.DirectoryChange.{DirectoryChange}
use Rattle.nfs_server.specs.Answering.{is_ok}
use Rattle.nfs_xdr.specs.declared.opnum.Opnum.{Opnum}
use Rattle.nfs_xdr.specs.declared.opnum.Opnum.TheVariants as opnums
use Rattle.nfs_xdr.specs.declared.opnum.Unsupported.{Unsupported}
use Rattle.nfs_xdr.specs.OpResult.{refusal_of, refused_change, refused_without_rule, status_of}
use Rattle.nfs_xdr.specs.Opnum.{change_of}

change_ends : (change : Option DirectoryChange) (o : Unsupported) → is_ok (status_of (refused_change change o)) ≡ false
change_ends (Some change) o = refl
change_ends None o = refl

without_rule_ends : (o : Unsupported) (r : Refusal) → is_ok (status_of (refused_without_rule o r)) ≡ false
without_rule_ends o refusals.Rofs = change_ends (change_of o) o
without_rule_ends o r = refl

pub refusal_ends : (o : Opnum) (r : Refusal) → is_ok (status_of (refusal_of o r)) ≡ false
refusal_ends (opnums.Unsupported o) r = without_rule_ends o r
refusal_ends o r = refl
