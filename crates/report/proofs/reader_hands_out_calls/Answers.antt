-- What is handed out of a file that is read are the file's calls.
use Rattle.report.proofs.Handing as theorem
use Rattle.report.proofs.reader_hands_out_calls.Goals as goal

pub returns : goal.returns
returns c = theorem.reader_hands_out_calls
