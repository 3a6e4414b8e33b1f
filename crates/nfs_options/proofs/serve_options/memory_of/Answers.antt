use Rattle.std.proofs.Common.{◌≡◌, ◌∙◌, Some, ap, codes, refl, subst, sym}
use Rattle.clap.specs.Words.{first_of, found_of, rows_of}
use Rattle.clap.proofs.WalkLemmas.{first_value-rows}
use Rattle.nfs_options.specs.CommandLine.{IsMemoryOr, IsNoNumber, SpellsWithin, memory_max, text_of}
use Rattle.std.specs.Prelude.{IfSome, IsSome}
use Rattle.nfs_options.proofs.serve_options.memory_of.Goals as goal

pub returns-in-None-clause-ok : goal.returns-in-None-clause-ok
returns-in-None-clause-ok c =
    let text = c.get_str.ensures ∙ first_value-rows (found_of c.args.matches.now) (codes "memory") in
    sym text ∙ ap text_of c.in-None.is

pub returns-in-Ok-clause-ok : goal.returns-in-Ok-clause-ok
returns-in-Ok-clause-ok c =
    let text = c.get_str.ensures ∙ first_value-rows (found_of c.args.matches.now) (codes "memory") in
    let here : Some c.in-Some.text.now ≡ first_of (codes "memory") (rows_of (found_of c.args.matches.now)) = sym (ap text_of c.in-Some.is) ∙ text in
    subst (λ o. IfSome o (λ t. SpellsWithin 1 memory_max t c.in-Ok.memory) × IsSome o) here (c.in-Ok.ensures.ok, refl)

pub returns-in-Err-clause-err : goal.returns-in-Err-clause-err
returns-in-Err-clause-err c =
    let text = c.get_str.ensures ∙ first_value-rows (found_of c.args.matches.now) (codes "memory") in
    let here : Some c.in-Some.text.now ≡ first_of (codes "memory") (rows_of (found_of c.args.matches.now)) = sym (ap text_of c.in-Some.is) ∙ text in
    subst (λ o. IsMemoryOr (IsNoNumber 1 memory_max o) c.in-Err.declined) here c.in-Err.ensures.err
