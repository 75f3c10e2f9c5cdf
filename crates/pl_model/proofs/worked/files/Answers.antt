use Rattle.pl_model.proofs.computed.FileExamples.{end_of_a_file, bad_names, refusals_of_an_open, flags_of_an_open, appending_and_seeking, unlinked_file_lives_on, names_keep_their_files, pipes_have_no_offset}
use Rattle.pl_model.proofs.worked.files.Goals as goal

pub returns-clause-end_of_a_file : goal.returns-clause-end_of_a_file
returns-clause-end_of_a_file g c = end_of_a_file _

pub returns-clause-bad_names : goal.returns-clause-bad_names
returns-clause-bad_names g c = bad_names _

pub returns-clause-refusals_of_an_open : goal.returns-clause-refusals_of_an_open
returns-clause-refusals_of_an_open g c = refusals_of_an_open _

pub returns-clause-flags_of_an_open : goal.returns-clause-flags_of_an_open
returns-clause-flags_of_an_open g c = flags_of_an_open _

pub returns-clause-appending_and_seeking : goal.returns-clause-appending_and_seeking
returns-clause-appending_and_seeking g c = appending_and_seeking _

pub returns-clause-unlinked_file_lives_on : goal.returns-clause-unlinked_file_lives_on
returns-clause-unlinked_file_lives_on g c = unlinked_file_lives_on _

pub returns-clause-names_keep_their_files : goal.returns-clause-names_keep_their_files
returns-clause-names_keep_their_files g c = names_keep_their_files _

pub returns-clause-pipes_have_no_offset : goal.returns-clause-pipes_have_no_offset
returns-clause-pipes_have_no_offset g c = pipes_have_no_offset _
