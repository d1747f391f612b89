mod LongJob
mod OutputLaws
