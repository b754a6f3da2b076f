-- `joins::cut_turn` meets its contract: the removal and the exchange are those of whole records. Assumes nothing.
use Rattle.std.proofs.Common.{length-set, rules, ◌∙◌}
use Rattle.joins.proofs.Returns.{room, turn-law}
use Rattle.joins.proofs.cut_turn.Goals as goal

pub overflow_sub-trailer : goal.overflow_sub-trailer
overflow_sub-trailer c = let r = room _ c.requires.good in search rules

pub overflow_mul-gone : goal.overflow_mul-gone
overflow_mul-gone c = let r = room _ c.requires.good in search rules

pub overflow_mul-gone-2 : goal.overflow_mul-gone-2
overflow_mul-gone-2 c = let r = room _ c.requires.good in search rules

pub overflow_mul-count : goal.overflow_mul-count
overflow_mul-count c = let r = room _ c.requires.good in search rules

pub remove_words-requires : goal.remove_words-requires
remove_words-requires c = let r = room _ c.requires.good in search rules

pub overflow_mul-store : goal.overflow_mul-store
overflow_mul-store c = let r = room _ c.requires.good in search rules

pub bounds-store-trailer : goal.bounds-store-trailer
bounds-store-trailer c = let r = room _ c.requires.good in search rules

pub overflow_mul-a : goal.overflow_mul-a
overflow_mul-a c = let r = room _ c.requires.good in search rules

pub overflow_mul-m : goal.overflow_mul-m
overflow_mul-m c = let r = room _ c.requires.good in search rules

pub overflow_mul-b : goal.overflow_mul-b
overflow_mul-b c = let r = room _ c.requires.good in search rules

pub rotate-requires : goal.rotate-requires
rotate-requires c = let r = room _ c.requires.good in simp length-set (search rules)

pub shape_of-store : goal.shape_of-store
shape_of-store c = c.store-2-1.given ∙ simp length-set c.store-1.given

pub returns : goal.returns
returns c = search (rules, turn-law)
