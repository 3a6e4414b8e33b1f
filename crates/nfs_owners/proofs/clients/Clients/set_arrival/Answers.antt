use Rattle.std.proofs.Common.{◌≡◌, ◌∙◌, Some, ap, arith}
use Rattle.nfs_owners.specs.Addresses.{is_within_limit}
use Rattle.nfs_owners.specs.Choice.{choice}
use Rattle.nfs_owners.specs.Registration.{arrival}
use Rattle.nfs_owners.proofs.Choosing.{refused_by_address}
use Rattle.nfs_owners.proofs.clients.Clients.set_arrival.Goals as goal

pub returns-in_err-record-clause-full : goal.returns-in_err-record-clause-full
returns-in_err-record-clause-full c =
    let args = c.args.args.now in
    let registry = c.args.self.now.registry in
    let chosen : Some c.in-Some.number ≡ choice args.id registry = c.in-Some.ensures.number ∙ ap (λ id. choice id registry) c.as_slice.ensures.value in
    let refused = refused_by_address (is_within_limit args.callback.address) (arrival c.args.epoch registry c.args.principal args) (choice args.id registry) c.in-Some.number chosen in
    (λ full. refused.1 (grind arith), λ none. grind (arith, refused.0 none))

pub returns-clause-full : goal.returns-clause-full
returns-clause-full c =
    let args = c.args.args.now in
    let registry = c.args.self.now.registry in
    let chosen : Some c.in-Some.number ≡ choice args.id registry = c.in-Some.ensures.number ∙ ap (λ id. choice id registry) c.as_slice.ensures.value in
    let refused = refused_by_address (is_within_limit args.callback.address) (arrival c.args.epoch registry c.args.principal args) (choice args.id registry) c.in-Some.number chosen in
    (λ full. absurd (cc), λ none. absurd (cc (c.in_ok-record.ensures.full.1 (refused.0 none))))
