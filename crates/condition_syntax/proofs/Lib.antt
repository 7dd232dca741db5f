pub mod FrontLaws
pub mod ExpressionsTaken
pub mod EndLaws
pub mod TermLoop
pub mod ConditionsTaken
pub mod ChainLoop
pub mod PartLaws
pub mod TreeLaws
pub mod ExpressionsAgain
mod LongestExpressions
mod LongestConditions
pub mod ConditionsAgain
pub mod Exactness
pub mod TextLaws
pub mod TextShows
pub mod ExpressionTexts
pub mod ConditionTexts
pub mod RightTokens
pub mod RefusedFrom
pub mod ConditionsRefused
pub mod RefusedAgain
pub mod LimitLaws
