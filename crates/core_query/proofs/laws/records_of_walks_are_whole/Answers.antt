use Rattle.std.proofs.Common.{[]}
use Rattle.core_state.specs.Walking.{asked_words}
use Rattle.core_query.proofs.Finding.{asked-layers}
use Rattle.core_query.proofs.Recording.{whole-record}
use Rattle.core_query.proofs.Followed.{whole-followed}
use Rattle.core_query.proofs.Ended.{leads}
use Rattle.core_query.proofs.Apart.{asked-apart, loads-apart}
use Rattle.core_query.proofs.laws.records_of_walks_are_whole.Goals as goal

pub returns-clause-whole : goal.returns-clause-whole
returns-clause-whole c = whole-record

pub returns-clause-words : goal.returns-clause-words
returns-clause-words c = asked-apart

pub returns-clause-once : goal.returns-clause-once
returns-clause-once c = λ core query seat number view all walking end.
    loads-apart query [] (asked_words core.config query.mask) view.walk.loads (whole-record core.config query view.walk.loads walking.follows end) (asked-layers core.config query.mask)
    (asked-apart core.config query.mask) (leads core all query seat number view walking).once

pub returns-clause-read : goal.returns-clause-read
returns-clause-read c = whole-followed
