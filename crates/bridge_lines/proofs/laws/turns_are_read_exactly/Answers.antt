-- A turn is read exactly.
use Rattle.bridge_lines.proofs.Telling.{news-again, news-is, turn-ends}
use Rattle.bridge_lines.proofs.laws.turns_are_read_exactly.Goals as goal

pub returns-clause-news : goal.returns-clause-news
returns-clause-news c = λ turn news. (news-is turn news, news-again turn news)

pub returns-clause-ends : goal.returns-clause-ends
returns-clause-ends c = turn-ends
