use Rattle.std.proofs.Common.{inl, rules}
use Rattle.nfs_journal.specs.File.{file}
use Rattle.nfs_program.proofs.journal_file.write_file.Goals as goal

-- a write failed before all of the file was written, and the file fits its form
pub returns-in-Err-put_file-clause-filed : goal.returns-in-Err-put_file-clause-filed
unfolding file
returns-in-Err-put_file-clause-filed g c = inl (search rules)
