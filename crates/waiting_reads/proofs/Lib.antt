mod ReadLemmas
mod WaitLemmas
mod AnswerLemmas
mod StandLemmas
mod FillLemmas
