mod CallLaws
mod Crossing
mod Letting
mod ScriptLaws
