use Rattle.std.proofs.Common.{ap, arith, length}
use Rattle.nfs_rules.proofs.Listings.{entry_fits, entry_len}
use Rattle.nfs_rules.proofs.operations.readdir.entry_of.Goals as goal

pub returns-clause-form : goal.returns-clause-form
returns-clause-form c =
    entry_fits (record { cookie = c.cookie_of.result; name = c.in_ok-name.name; attributes = c.in_ok-attributes.attributes }) (omega (arith, c.cookie_of.ensures))
    (omega (arith, ap length c.in_ok-name.ensures, c.name.ensures.short)) c.in_ok-attributes.ensures.few

pub returns-clause-few : goal.returns-clause-few
returns-clause-few c =
    entry_len (record { cookie = c.cookie_of.result; name = c.in_ok-name.name; attributes = c.in_ok-attributes.attributes })
    (omega (arith, ap length c.in_ok-name.ensures, c.name.ensures.short)) c.in_ok-attributes.ensures.few
