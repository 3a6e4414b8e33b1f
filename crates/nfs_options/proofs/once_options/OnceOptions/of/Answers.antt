use Rattle.std.proofs.Common.{◌∙◌, codes, subst, inl, inr}
use Rattle.clap.specs.Words.{found_of, rows_of}
use Rattle.clap.proofs.WalkLemmas.{first_value-rows}
use Rattle.nfs_options.specs.CommandLine.{IsMemoryOr, IsNoNumber, IsNumber, LacksOnce, epoch_default, epoch_max, lease_default, moment_default, moment_max}
use Rattle.nfs_state.specs.declared.journal.TheConstants.{LEASE_MAX, LEASE_MIN}
use Rattle.nfs_options.proofs.Declining.{passed_on, weaker_fault}
use Rattle.nfs_options.proofs.once_options.OnceOptions.of.Goals as goal

pub returns-in_err-short_number-clause-err : goal.returns-in_err-short_number-clause-err
returns-in_err-short_number-clause-err c =
    let text = c.get_str-2.ensures ∙ first_value-rows (found_of c.args.matches.now) (codes "lease") in
    let is = subst (λ o. IsMemoryOr (IsNoNumber LEASE_MIN LEASE_MAX o) c.in_err-short_number.field-0.0) text c.in_err-short_number.ensures.err in
    let wrong = weaker_fault _ (LacksOnce (rows_of (found_of c.args.matches.now))) inl _ is in
    passed_on c.from_residual.result _ _ c.from_residual.ensures.1 wrong

pub returns-in_err-short_number-2-clause-err : goal.returns-in_err-short_number-2-clause-err
returns-in_err-short_number-2-clause-err c =
    let text = c.get_str-3.ensures ∙ first_value-rows (found_of c.args.matches.now) (codes "epoch") in
    let is = subst (λ o. IsMemoryOr (IsNoNumber 0 epoch_max o) c.in_err-short_number-2.field-0.0) text c.in_err-short_number-2.ensures.err in
    let wrong = weaker_fault _ (LacksOnce (rows_of (found_of c.args.matches.now))) (λ h. inr (inl h)) _ is in
    passed_on c.from_residual-in_err-short_number-2.result _ _ c.from_residual-in_err-short_number-2.ensures.1 wrong

pub returns-in_err-number-clause-err : goal.returns-in_err-number-clause-err
returns-in_err-number-clause-err c =
    let text = c.get_str-4.ensures ∙ first_value-rows (found_of c.args.matches.now) (codes "now") in
    let is = subst (λ o. IsMemoryOr (IsNoNumber 0 moment_max o) c.in_err-number.field-0.0) text c.in_err-number.ensures.err in
    let wrong = weaker_fault _ (LacksOnce (rows_of (found_of c.args.matches.now))) (λ h. inr (inr h)) _ is in
    passed_on c.from_residual-in_err-number.result _ _ c.from_residual-in_err-number.ensures.1 wrong

pub returns-clause-ok : goal.returns-clause-ok
returns-clause-ok c =
    let given = first_value-rows (found_of c.args.matches.now) in
    let lease = subst (λ o. IsNumber LEASE_MIN LEASE_MAX lease_default o c.in_ok-short_number.field-0) (c.get_str-2.ensures ∙ given (codes "lease")) c.in_ok-short_number.ensures.ok in
    let epoch = subst (λ o. IsNumber 0 epoch_max epoch_default o c.in_ok-short_number-2.field-0) (c.get_str-3.ensures ∙ given (codes "epoch")) c.in_ok-short_number-2.ensures.ok in
    let moment = subst (λ o. IsNumber 0 moment_max moment_default o c.in_ok-number.field-0) (c.get_str-4.ensures ∙ given (codes "now")) c.in_ok-number.ensures.ok in
    (c.get_str.ensures ∙ given (codes "tree"), lease, epoch, moment, c.get_str-5.ensures ∙ given (codes "journal"))
