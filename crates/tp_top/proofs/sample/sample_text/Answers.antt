use Rattle.tp_top.proofs.Running.Samples.{whole_text}
use Rattle.tp_top.proofs.sample.sample_text.Goals as goal

pub returns : goal.returns
returns c =
    whole_text c.args.n _ _ _ _ _ _ c.new-text.ensures.bytes c.saturating_sub.ensures c.in_ok-push_str.ensures.bytes
    c.in_ok-add_processes.ensures c.in_ok-add_last.ensures c.in_ok-push_str-2.ensures.bytes
