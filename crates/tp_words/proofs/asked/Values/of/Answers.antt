use Rattle.std.proofs.Common.{codes}
use Rattle.clap.specs.Words.{found_of}
use Rattle.tp_words.proofs.ReadsWords.Requests.{told_first, same_given}
use Rattle.tp_words.proofs.asked.Values.of.Goals as goal

pub returns : goal.returns
returns c =
    let f = found_of c.args.matches.now in
    same_given
    (told_first f (codes "MODEL") _ c.get_str.ensures)
    (told_first f (codes "GOAL") _ c.get_str-2.ensures)
    (told_first f (codes "steps") _ c.get_str-3.ensures)
    (told_first f (codes "answers") _ c.get_str-4.ensures)
    (told_first f (codes "meters") _ c.get_str-5.ensures)
    (told_first f (codes "sample") _ c.get_str-6.ensures)
