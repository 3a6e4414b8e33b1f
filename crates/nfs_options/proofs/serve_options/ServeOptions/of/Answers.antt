use Rattle.std.proofs.Common.{◌≡◌, ◌∙◌, List, Option, Some, None, ap, codes, subst, inl, inr, refl, ℕ}
use Rattle.std.specs.Prelude.{unwrap_or}
use Rattle.std.specs.Borrow.{Bor}
use Rattle.clap.specs.Words.{first_value, found_of, rows_of}
use Rattle.clap.proofs.WalkLemmas.{first_value-rows}
use Rattle.nfs_options.specs.CommandLine.{IsMemoryOr, IsNoNumber, IsNumber, LacksServe, epoch_default, epoch_max, lease_default, listen_default, text_of}
use Rattle.nfs_state.specs.declared.journal.TheConstants.{LEASE_MAX, LEASE_MIN}
use Rattle.nfs_options.proofs.Declining.{passed_on, weaker_fault}
use Rattle.nfs_options.proofs.serve_options.ServeOptions.of.Goals as goal

text_or_default : (given : Option (Bor (List ℕ))) (default : Bor (List ℕ)) → (unwrap_or given default).now ≡ unwrap_or (text_of given) default.now
text_or_default None default = refl
text_or_default (Some text) default = refl

pub returns-in_err-short_number-clause-err : goal.returns-in_err-short_number-clause-err
returns-in_err-short_number-clause-err c =
    let option = c.connections_option-connections in
    let named = ap (first_value (found_of c.args.matches.now)) option.ensures.name in
    let text = c.get_str-2.ensures ∙ named ∙ first_value-rows (found_of c.args.matches.now) (codes "connections") in
    let limits = option.ensures.limits in
    let is = subst (λ (x : ℕ × (ℕ × Option (List ℕ))). IsMemoryOr (IsNoNumber x.0 x.1.0 x.1.1) c.in_err-short_number.field-0.0) (λ i. (limits.0 i, (limits.1 i, text i))) c.in_err-short_number.ensures.err in
    let wrong = weaker_fault _ (LacksServe (rows_of (found_of c.args.matches.now))) (λ h. inr (inl h)) _ is in
    passed_on c.from_residual-in_err-short_number.result _ _ c.from_residual-in_err-short_number.ensures.1 wrong

pub returns-in_err-short_number-2-clause-err : goal.returns-in_err-short_number-2-clause-err
returns-in_err-short_number-2-clause-err c =
    let text = c.get_str-4.ensures ∙ first_value-rows (found_of c.args.matches.now) (codes "lease") in
    let is = subst (λ o. IsMemoryOr (IsNoNumber LEASE_MIN LEASE_MAX o) c.in_err-short_number-2.field-0.0) text c.in_err-short_number-2.ensures.err in
    let wrong = weaker_fault _ (LacksServe (rows_of (found_of c.args.matches.now))) (λ h. inr (inr (inl h))) _ is in
    passed_on c.from_residual-in_err-short_number-2.result _ _ c.from_residual-in_err-short_number-2.ensures.1 wrong

pub returns-in_err-short_number-3-clause-err : goal.returns-in_err-short_number-3-clause-err
returns-in_err-short_number-3-clause-err c =
    let text = c.get_str-5.ensures ∙ first_value-rows (found_of c.args.matches.now) (codes "epoch") in
    let is = subst (λ o. IsMemoryOr (IsNoNumber 0 epoch_max o) c.in_err-short_number-3.field-0.0) text c.in_err-short_number-3.ensures.err in
    let wrong = weaker_fault _ (LacksServe (rows_of (found_of c.args.matches.now))) (λ h. inr (inr (inr (inl h)))) _ is in
    passed_on c.from_residual-in_err-short_number-3.result _ _ c.from_residual-in_err-short_number-3.ensures.1 wrong

pub returns-in_err-memory_of-clause-err : goal.returns-in_err-memory_of-clause-err
returns-in_err-memory_of-clause-err c =
    let wrong = weaker_fault _ (LacksServe (rows_of (found_of c.args.matches.now))) (λ h. inr (inr (inr (inr h)))) _ c.in_err-memory_of.ensures.err in
    passed_on c.from_residual-in_err-memory_of.result _ _ c.from_residual-in_err-memory_of.ensures.1 wrong

pub returns-clause-ok : goal.returns-clause-ok
returns-clause-ok c =
    let given = first_value-rows (found_of c.args.matches.now) in
    let listen = ap (λ (text : Bor (List ℕ)). text.now) c.unwrap_or.ensures
    ∙ (text_or_default c.get_str.result _ ∙ ap (λ text. unwrap_or text listen_default) (c.get_str.ensures ∙ given (codes "listen"))) in
    let option = c.connections_option-connections in
    let limits = option.ensures.limits in
    let named = ap (first_value (found_of c.args.matches.now)) option.ensures.name in
    let text = c.get_str-2.ensures ∙ named ∙ given (codes "connections") in
    let connections = subst (λ (x : ℕ × (ℕ × (ℕ × Option (List ℕ)))). IsNumber x.0 x.1.0 x.1.1.0 x.1.1.1 c.in_ok-short_number.field-0) (λ i. (limits.0 i, (limits.1 i, (option.ensures.default i, text i)))) c.in_ok-short_number.ensures.ok in
    let lease = subst (λ o. IsNumber LEASE_MIN LEASE_MAX lease_default o c.in_ok-short_number-2.field-0) (c.get_str-4.ensures ∙ given (codes "lease")) c.in_ok-short_number-2.ensures.ok in
    let epoch = subst (λ o. IsNumber 0 epoch_max epoch_default o c.in_ok-short_number-3.field-0) (c.get_str-5.ensures ∙ given (codes "epoch")) c.in_ok-short_number-3.ensures.ok in
    (listen, c.in_ok-until.ensures.ok, connections, c.get_str-3.ensures ∙ given (codes "tree"), lease, epoch, c.get_str-6.ensures ∙ given (codes "journal"), c.in_ok-memory_of.ensures.ok)
