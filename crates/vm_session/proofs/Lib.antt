mod PlainLaws
mod Beginning
mod WorkLaws
