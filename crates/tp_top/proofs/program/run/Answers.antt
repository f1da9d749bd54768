use Rattle.std.proofs.Common.{inr, refl, ap, subst, sym, ◌<◌, ◌∙◌}
use Rattle.tp_words.specs.Command.{words_of}
use Rattle.tp_words.proofs.ReadsWords.Requests.{answers_some}
use Rattle.tp_top.proofs.Running.Parts.{asked_answers, out_of_memory}
use Rattle.tp_top.proofs.program.run.Goals as goal

pub perform-requires : goal.perform-requires
perform-requires g c = record {
  answers =
      subst (λ n. 0 < n) (sym (ap (λ q. q.answers) c.of.ensures ∙ asked_answers c.in-Ok.request))
      (answers_some (words_of c.args.words.now) c.in-Ok.request c.in-Ok.ensures.ok);
}

pub returns-in-Err-NoMemory-clause-ended : goal.returns-in-Err-NoMemory-clause-ended
returns-in-Err-NoMemory-clause-ended g c = out_of_memory _ (inr (refl, refl, refl)) refl refl refl
