use Rattle.std.proofs.Common.{◌≡◌, ◌∙◌, Some, None, cond, ap, option_copied, sym, true, false}
use Rattle.nfs_owners.specs.Registry.{is_named_by}
use Rattle.nfs_owners.proofs.LiveNumbers.{of_name}
use Rattle.nfs_owners.proofs.clients.named_by.Goals as goal

pub returns-in_err-record : goal.returns-in_err-record
returns-in_err-record c =
    ap option_copied c.from_residual.ensures
    ∙ of_name c.args.args.now c.args.records.now.records None c.of_client.ensures.apart c.in_err-record.ensures.found

pub returns-then-is_named_by : goal.returns-then-is_named_by
returns-then-is_named_by c =
    let r = c.in_ok-record.record.now in
    let named : is_named_by c.args.args.now r ≡ true = sym c.is_named_by.ensures ∙ c.if-is_named_by.true in
    sym (ap (λ b. cond b (Some r) None) named)
    ∙ of_name c.args.args.now c.args.records.now.records (Some r) c.of_client.ensures.apart c.in_ok-record.ensures.found

pub returns-else-is_named_by : goal.returns-else-is_named_by
returns-else-is_named_by c =
    let r = c.in_ok-record.record.now in
    let other : is_named_by c.args.args.now r ≡ false = sym c.is_named_by.ensures ∙ c.if-is_named_by.false in
    sym (ap (λ b. cond b (Some r) None) other)
    ∙ of_name c.args.args.now c.args.records.now.records (Some r) c.of_client.ensures.apart c.in_ok-record.ensures.found
