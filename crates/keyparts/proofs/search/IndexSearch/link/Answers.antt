-- An edge that went in for another stands where it stood; an edge more is linked where it went.
use Rattle.keyparts.proofs.Links.{linked_index}
use Rattle.keyparts.proofs.search.IndexSearch.link.Goals as goal

pub returns-then-count-place : goal.returns-then-count-place
returns-then-count-place c = let a = c.args in λ x y w key place count put known.
    linked_index x y w a.key a.place a.count a.self.now.links key place count put known _ c.link.ensures c.if-count-place.true
