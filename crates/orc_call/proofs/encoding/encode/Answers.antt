use Rattle.orc_call.proofs.Prefixes.{encoding_alone}
use Rattle.orc_call.proofs.encoding.encode.Goals as goal

pub returns-in_err-push_call-clause-alone : goal.returns-in_err-push_call-clause-alone
returns-in_err-push_call-clause-alone c = λ other rest lawful e. encoding_alone c.args.call.now other rest c.requires lawful e

pub returns-clause-alone : goal.returns-clause-alone
returns-clause-alone c = λ other rest lawful e. encoding_alone c.args.call.now other rest c.requires lawful e
