use Rattle.moves.proofs.Returns.{rotate-law}
use Rattle.moves.proofs.rotate.Goals as goal

pub returns : goal.returns
returns c =
    rotate-law c.args.s.now c.reverse.new.self c.reverse-2.new.self c.reverse-3.new.self c.args.a c.args.m c.args.b c.requires.0 c.requires.1 c.requires.2
    c.reverse.ensures.after c.reverse-2.ensures.after c.reverse-3.ensures.after
